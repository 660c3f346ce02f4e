-- The names that the proofs here use most, from other crates and the definitions of this one.
pub use Rattle.std.proofs.Common.{◌*◌, ◌++◌, ◌+◌, ◌-◌, ◌<◌, ◌^◌, ◌||◌, ◌↔◌, ◌∙◌, ◌∷◌, ◌≡◌, ◌≢◌, ◌≤◌, ◌⊎◌, Bool, Contains, Err, IsTrue, List, MatchOption, None}
pub use Rattle.std.proofs.Common.{Ok, Option, Result, Some, [], ap, append_assoc, arith, cond, drop, eqb, false, get_or, inl, inr, length, length-append, ltb}
pub use Rattle.std.proofs.Common.{min, not, refl, rules, subst, suc, sym, take, true, zero, ℕ}
pub use Rattle.std.proofs.lemmas.Bool.{both_ways, cases_Bool, cases_eq, cases_lt, eq-eqb, le-leb, leb-true, lt-ltb, ltb-false, ltb-true, ne_eqb, true≢false}
pub use Rattle.std.proofs.lemmas.List.{append-nil, append_cancel_right, drop-append-le, length-take, take-append-drop, take-append-le}
pub use Rattle.std.proofs.lemmas.List.Elements.{All-append, All-cons, All-nil, Contains-append_right}
pub use Rattle.std.proofs.lemmas.Option.{same_Some, slice_get_within}
pub use Rattle.std.specs.List.{All}
pub use Rattle.std.specs.Prelude.{IfErr, IfSome, MatchResult, slice_get, slice_set, vec_len}
pub use Rattle.dob_pieces.proofs.Elements.{at_end, read_there, some_at}
pub use Rattle.dob_pieces.specs.declared.profile.Family.{Family}
pub use Rattle.dob_moves.specs.declared.position_status.Status.{Status}
pub use Rattle.dob_moves.specs.declared.position_status.Status.TheVariants.{Open}
pub use Rattle.dob_rank.specs.Families.{class_setup, classes_of}
pub use Rattle.dob_distance.specs.Codes.{IsEntry}
pub use Rattle.dob_distance.specs.declared.value.Value.{Value}
pub use Rattle.dob_distance.specs.declared.value.Value.TheVariants.{Draw, Loss, Win}
pub use Rattle.dob_unmove.specs.Edges.{predecessors}
pub use Rattle.dob_share.proofs.Applied.{CellValue-same}
pub use Rattle.dob_share.specs.Cells.{Cell, Changes, SameCell, SumsUp, changed, fresh}
pub use Rattle.dob_share.specs.Owners.{owner_of}
pub use Rattle.dob_share.specs.declared.news.Item.{Item}
pub use Rattle.dob_share.specs.declared.news.Settlement.{Settlement}
pub use Rattle.dob_share.specs.declared.share.Share.{Share}
pub use Rattle.dob_update.proofs.BatchItems.{items_in_more}
pub use Rattle.dob_update.specs.Batches.{BatchView, OutboxView, empty_outbox, items_of_batches}
pub use Rattle.dob_share.specs.Items.{items_from, items_of}
pub use Rattle.dob_share.specs.declared.cause.Cause.{Cause}
pub use Rattle.dob_share.specs.declared.cause.Cause.TheVariants.{Counts, Held, Memory}
pub use Rattle.dob_history.proofs.Kepts.{fits_own, kept_still, news_is}
pub use Rattle.dob_node.proofs.Nodes.{kept_sound, outbox_same}
pub use Rattle.dob_history.proofs.Settles.{chained_more, emitted_grown, emitted_more, value_of-more}
pub use Rattle.dob_history.proofs.ValuesFollow.{SumsUp-same}
pub use Rattle.dob_history.specs.Histories.{IsChained, IsNext, all_known, value_of}
pub use Rattle.dob_node.specs.NodeViews.{NodeView}
pub use Rattle.dob_node.specs.Nodes.{HasApplied, HasAppliedItems, HasCut, HasItemFault, HasTaken, IsExpanded, IsIdle, IsOpened, IsSound, IsUnchanged, outbox_to}
pub use Rattle.dob_history.specs.Stores.{HistoryView}
pub use Rattle.dob_history.specs.TakenItems.{AreKept, AreTaken, IsReason, IsTaken, listed}
pub use Rattle.dob_node.specs.declared.node.Node.{Node}
pub use Rattle.dob_board.specs.Histories.{token_moves_of}
pub use Rattle.dob_board.specs.Seats.{IsSameSeat, MovesNothing, TakesOne}
pub use Rattle.dob_board.specs.declared.halt.Halt.{Halt}
pub use Rattle.dob_board.specs.declared.halt.Halt.TheVariants.{Ended, Running}
pub use Rattle.dob_board.specs.declared.seat.NodeSeat.{NodeSeat}
pub use Rattle.dob_board.specs.declared.view.SeatState.{SeatState}
pub use Rattle.dob_chan.proofs.Deliveries.{others_more}
pub use Rattle.dob_chan.specs.Ends.{sent_by, taken_by}
pub use Rattle.dob_chan.specs.Inboxes.{batches_of}
pub use Rattle.dob_chan.specs.declared.ends.SendEnd.{SendEnd}
pub use Rattle.dob_chan.specs.declared.ends.TakeEnd.{TakeEnd}
pub use Rattle.dob_endpoint.specs.Endpoints.{AreOut, HasChangedOne}
pub use Rattle.dob_endpoint.specs.Keeps.{HasSameLinksAndColour, KeepsEndpoint}
pub use Rattle.dob_endpoint.specs.Links.{IsOffered, IsReceived, KeepsInlet, KeepsOutlet, offered, worked}
pub use Rattle.dob_endpoint.specs.Slots.{in_slot}
pub use Rattle.dob_endpoint.specs.declared.endpoint.Endpoint.{Endpoint}
pub use Rattle.dob_endpoint.specs.declared.slots.Inlet.{Inlet}
pub use Rattle.dob_endpoint.specs.declared.slots.Outlet.{Outlet}
pub use Rattle.dob_runner.specs.Batches.{HoldsFor, IsBatchFor}
pub use Rattle.dob_runner.specs.Knows.{AreCellsSummed, CanHaveMade, KnowsRight, least_loss, sum_of}
pub use Rattle.dob_runner.specs.LawfulRunners.{AreLast, IsLawfulRunner, IsSpared, SendsRight, applied_from, items_worked, own_applied, planned}
pub use Rattle.dob_runner.specs.Runners.{FailsFor, GateIsAsked, GoesOn, GoesRound, HasBroken, HasCutAll, HasFailed, HasRefused, IsAtRest, IsNew, IsReasonFor}
pub use Rattle.dob_runner.specs.Runners.{IsReasoned, KeepsRunner, StepsBy, no_gate, says_no}
pub use Rattle.dob_runner.specs.TurnRounds.{AddsFew, CutsFor, CutsLeft, ExpandsOne, ExpandsSome, ExpandsUpTo, FillsFor, HasSentOne, HasToSend, HoldsUp, IsAbove}
pub use Rattle.dob_runner.specs.TurnRounds.{IsHeldUp, IsLevel, IsMoreOut, IsSent, IsToFill, IsUnwanted, IsWorkedIn, RunnerTakesBatch, SendsAll, SendsBelow}
pub use Rattle.dob_runner.specs.TurnRounds.{SendsSmall, SendsTo, Works}
pub use Rattle.dob_runner.specs.Turns.{GateIsTold, HasSameWork, HasSeen, HasTurned}
pub use Rattle.dob_runner.specs.declared.runner.Runner.{Runner}
