-- The names that the proofs here use most, from other crates and the definitions of this one.
pub use Rattle.std.proofs.Common.{◌*◌, ◌++◌, ◌+◌, ◌-◌, ◌<◌, ◌∙◌, ◌∷◌, ◌≡◌, ◌≢◌, ◌≤◌, Bool, Global, List, None, Option, Result, Some, [], ap, arith, cond, eqb}
pub use Rattle.std.proofs.Common.{false, get_or, inl, inr, length, length-append, map, refl, rules, subst, suc, sym, take, true, zero, ℕ}
pub use Rattle.std.proofs.lemmas.Bool.{cases_Bool, cases_eq, cases_lt, eq-eqb, eqb-true, ne_eqb}
pub use Rattle.std.proofs.lemmas.List.{append-nil, get_or_past, length-map, take_all}
pub use Rattle.std.proofs.lemmas.Option.{slice_get-get_or}
pub use Rattle.std.proofs.lemmas.Result.{IfErr-weaker, IfOk-weaker}
pub use Rattle.std.specs.List.{All, AllZip, count_by, filter, range_with_len, sum_by}
pub use Rattle.std.specs.Prelude.{Err, IfOk, MatchOption, Ok, OnOk, slice_get, slice_index}
pub use Rattle.std.specs.declared.vec.Vec.{Vec}
pub use Rattle.rayon.proofs.ListFacts.{AllZip-weaken}
pub use Rattle.dob_pieces.proofs.Elements.{some_at}
pub use Rattle.dob_pieces.proofs.Zips.{zip_at}
pub use Rattle.dob_pieces.specs.declared.profile.Family.{Family}
pub use Rattle.dob_rank.specs.Families.{classes_of}
pub use Rattle.dob_value.specs.Follows.{IsValueTable}
pub use Rattle.dob_distance.specs.declared.value.Value.{Value}
pub use Rattle.dob_distance.specs.declared.value.Value.TheVariants.{Draw}
pub use Rattle.dob_unmove.specs.Edges.{predecessors}
pub use Rattle.dob_share.specs.Owners.{owner_of}
pub use Rattle.dob_share.specs.Shares.{HasValueNow, IsValue, cell_at}
pub use Rattle.dob_share.specs.declared.news.Item.{Item}
pub use Rattle.dob_share.specs.declared.news.Settlement.{Settlement}
pub use Rattle.dob_share.specs.declared.share.Share.{Share}
pub use Rattle.dob_update.specs.Batches.{BatchView, items_of_batches}
pub use Rattle.dob_share.specs.Items.{item_for, items_from, items_of}
pub use Rattle.dob_share.specs.declared.cause.Cause.{Cause}
pub use Rattle.dob_share.specs.declared.build_fault.BuildFault.{BuildFault}
pub use Rattle.dob_share.specs.declared.build_fault.BuildFault.TheVariants.{Memory, Stopped}
pub use Rattle.dob_history.proofs.Rest.{below_owner}
pub use Rattle.dob_history.proofs.TakenLists.{carried}
pub use Rattle.dob_history.specs.Histories.{last_now, value_of}
pub use Rattle.dob_node.specs.Nodes.{IsIdle}
pub use Rattle.dob_node.specs.declared.node.Node.{Node}
pub use Rattle.dob_board.proofs.Halting.{same_halt}
pub use Rattle.dob_board.specs.Seats.{AreWords}
pub use Rattle.dob_board.specs.Words.{halt_word, posted_word}
pub use Rattle.dob_board.specs.declared.board.Blackboard.{Blackboard}
pub use Rattle.dob_board.specs.declared.board.Closed.{Closed}
pub use Rattle.dob_board.specs.declared.halt.Halt.{Halt}
pub use Rattle.dob_board.specs.declared.halt.Halt.TheVariants.{Ended, Failed, Running}
pub use Rattle.dob_chan.specs.Ends.{IsRejoined, sent_by, taken_by, taken_of}
pub use Rattle.dob_chan.specs.Inboxes.{IsLawfulInbox}
pub use Rattle.dob_chan.specs.declared.ends.Rejoined.{Rejoined}
pub use Rattle.dob_endpoint.proofs.Links.{parts}
pub use Rattle.dob_endpoint.specs.Endpoints.{AreOut}
pub use Rattle.dob_endpoint.specs.Links.{offered, worked_from}
pub use Rattle.dob_endpoint.specs.Slots.{held_from, in_slot}
pub use Rattle.dob_endpoint.specs.declared.endpoint.Endpoint.{Endpoint}
pub use Rattle.dob_endpoint.specs.declared.slots.Inlet.{Inlet}
pub use Rattle.dob_endpoint.specs.declared.slots.Outlet.{Outlet}
pub use Rattle.dob_runner.proofs.Knowing.{applied_else, applied_here, sums_by}
pub use Rattle.dob_runner.specs.Knows.{CanHaveMade, KnowsRight}
pub use Rattle.dob_runner.specs.LawfulRunners.{IsLawfulRunner, SendsRight, applied_from, items_worked, own_applied, planned}
pub use Rattle.dob_runner.specs.Runners.{IsReasonFor, KeepsRunner, says_no}
pub use Rattle.dob_runner.specs.TurnLoop.{Ends, EndsBy}
pub use Rattle.dob_runner.specs.declared.runner.Runner.{Runner}
pub use Rattle.dob_runner.specs.declared.turn_loop.Until.{Until}
pub use Rattle.dob_runner.specs.declared.turn_loop.Until.TheVariants.{Halted}
pub use Rattle.dob_gather.specs.Owners.{AreOwners, AreShownBelow, IsOwner}
pub use Rattle.dob_crew.specs.CrewClose.{AreClosed, IsCrew, seat_in}
pub use Rattle.dob_crew.specs.CrewRunners.{AreRunnersFor, IsNewCrew, endpoint_of, node_of}
pub use Rattle.dob_crew.specs.Faults.{AreWithin, HasCrewFault}
pub use Rattle.dob_threads.specs.Started.{AllSuit}
pub use Rattle.dob_run.specs.BuildEnd.{AllKnow, AreFailureless, HaveStopped, IsFailure, IsFailureOf, share_in}
pub use Rattle.dob_run.specs.Built.{IsBuilt, IsLinkDone, edges_to, needed}
pub use Rattle.dob_run.specs.CrewStops.{AreUnfailed, IsFirstFailed, IsUnheld, StopsSo}
pub use Rattle.dob_run.specs.CrewTurns.{AreLetOn, HasRun}
pub use Rattle.dob_run.specs.Faults.{HasBuildFault}
pub use Rattle.dob_run.specs.Finished.{AreFinished, AreShown, IsLawfulAt}
pub use Rattle.dob_run.specs.declared.built_table.Built.{Built}
