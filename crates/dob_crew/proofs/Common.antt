-- The names that the proofs here use most, from other crates and the definitions of this one.
pub use Rattle.std.proofs.Common.{◌*◌, ◌++◌, ◌+◌, ◌-◌, ◌<◌, ◌∙◌, ◌∷◌, ◌≡◌, Global, List, Option, Result, Some, [], ap, arith, inl, inr, length, length-append}
pub use Rattle.std.proofs.Common.{map, refl, rules, subst, suc, sym, take, vec_len, zero, ℕ, ⊎_elim}
pub use Rattle.std.proofs.lemmas.List.{length-map}
pub use Rattle.std.proofs.lemmas.Option.{same_Some, slice_get-get_or, slice_get_within}
pub use Rattle.std.specs.List.{AllZip}
pub use Rattle.std.specs.Prelude.{IfOk, replicate, slice_get, slice_index, slice_index_or}
pub use Rattle.std.specs.Vec.Iter.{into_iter_items}
pub use Rattle.std.specs.declared.vec.Vec.{Vec}
pub use Rattle.dob_pieces.proofs.Elements.{at_end, get_front, middle, some_at}
pub use Rattle.dob_pieces.proofs.Zips.{made_all, zip_at, zip_long}
pub use Rattle.dob_pieces.specs.declared.profile.Family.{Family}
pub use Rattle.dob_update.specs.Batches.{BatchView}
pub use Rattle.dob_share.specs.declared.build_fault.BuildFault.{BuildFault}
pub use Rattle.dob_share.specs.declared.build_fault.BuildFault.TheVariants.{Nodes, Sizes}
pub use Rattle.dob_history.proofs.TakenLists.{carried}
pub use Rattle.dob_node.specs.Nodes.{IsOpened}
pub use Rattle.dob_node.specs.declared.node.Node.{Node}
pub use Rattle.dob_board.specs.Rule.{fresh}
pub use Rattle.dob_board.specs.Seats.{AreSeats, AreWords, IsSeatOf, stand_of}
pub use Rattle.dob_board.specs.declared.board.Blackboard.{Blackboard}
pub use Rattle.dob_board.specs.declared.seat.NodeSeat.{NodeSeat}
pub use Rattle.dob_chan.specs.Ends.{IsRejoined, place_of, senders_of, sent_by, taken_by}
pub use Rattle.dob_chan.specs.Inboxes.{IsLawfulInbox, batches_of}
pub use Rattle.dob_chan.specs.declared.ends.Rejoined.{Rejoined}
pub use Rattle.dob_chan.specs.declared.ends.SendEnd.{SendEnd}
pub use Rattle.dob_chan.specs.declared.ends.TakeEnd.{TakeEnd}
pub use Rattle.dob_endpoint.specs.Links.{KeepsInlet, offered, worked}
pub use Rattle.dob_endpoint.specs.Slots.{in_slot}
pub use Rattle.dob_endpoint.specs.declared.endpoint.Endpoint.{Endpoint}
pub use Rattle.dob_endpoint.specs.declared.slots.Inlet.{Inlet}
pub use Rattle.dob_endpoint.specs.declared.slots.Outlet.{Outlet}
pub use Rattle.dob_runner.specs.Runners.{IsNew, KeepsRunner}
pub use Rattle.dob_runner.specs.declared.runner.Runner.{Runner}
pub use Rattle.dob_inboxes.specs.InboxClose.{AreEnds, AreJoined, outlet_end}
pub use Rattle.dob_inboxes.specs.InboxOpen.{AreLaid, IsLaid, IsUntaken}
pub use Rattle.dob_inboxes.specs.Rows.{AreDealt, StandsAt}
pub use Rattle.dob_crew.specs.CrewClose.{AreLinked, ArePartsOf, HasAdded, HasRowMore, IsCrew, end_in, ends_out, row_of, seat_in, slots_in, slots_out}
pub use Rattle.dob_crew.specs.CrewOpen.{AreNewEndpoints, IsNewEndpoint}
pub use Rattle.dob_crew.specs.CrewRunners.{AreRunnersFor, IsNewCrew, IsRunnerOf, KeepsPace, endpoint_of, node_of}
pub use Rattle.dob_crew.specs.Faults.{HasCrewFault, HasSizeFault}
pub use Rattle.dob_crew.specs.Seating.{AreSeated, CanSeatAll}
