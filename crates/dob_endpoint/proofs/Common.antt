-- The names that the proofs here use most, from other crates and the definitions of this one.
pub use Rattle.std.proofs.Common.{◌++◌, ◌+◌, ◌-◌, ◌<◌, ◌↔◌, ◌∙◌, ◌∷◌, ◌≡◌, ◌≢◌, ◌≤◌, Bool, IsTrue, List, None, Option, Some, [], ap, append_assoc, arith, cond, false}
pub use Rattle.std.proofs.Common.{get_or-set_other, get_or-set_same, inl, inr, length, length-append, map, nat_eq, not, refl, rules, set, subst, suc, sym, take}
pub use Rattle.std.proofs.Common.{true, zero, ℕ}
pub use Rattle.std.proofs.lemmas.Bool.{both_ways, cases_eq}
pub use Rattle.std.proofs.lemmas.List.{append-nil, take-append-le, take_all}
pub use Rattle.std.proofs.lemmas.List.Elements.{filter-append}
pub use Rattle.std.proofs.lemmas.Option.{same_Some, slice_get_within}
pub use Rattle.std.specs.Prelude.{IfSome, slice_get, slice_index, slice_set}
pub use Rattle.dob_pieces.proofs.Elements.{at_end, get_set_other, get_set_same, middle, read_there, some_at}
pub use Rattle.dob_update.specs.Batches.{BatchView}
pub use Rattle.dob_board.specs.Histories.{token_moves_of}
pub use Rattle.dob_board.specs.Seats.{FailsAfter, HasAnnounced, IsSameSeat, KnewOwnFailure, MovesNothing, TakesOne, witnessed_by}
pub use Rattle.dob_board.specs.declared.halt.Halt.{Halt}
pub use Rattle.dob_board.specs.declared.halt.Halt.TheVariants.{Ended, Failed, Running}
pub use Rattle.dob_board.specs.declared.seat.NodeSeat.{NodeSeat}
pub use Rattle.dob_board.specs.declared.view.SeatState.{SeatState}
pub use Rattle.dob_chan.proofs.Deliveries.{others_more}
pub use Rattle.dob_chan.specs.Ends.{SendsToSame, TakesFromSame, place_of, senders_of, sent_by, taken_by, taken_of}
pub use Rattle.dob_chan.specs.Inboxes.{batches_of}
pub use Rattle.dob_chan.specs.declared.ends.SendEnd.{SendEnd}
pub use Rattle.dob_chan.specs.declared.ends.TakeEnd.{TakeEnd}
pub use Rattle.dob_endpoint.specs.Endpoints.{AreBatchesTaken, AreCounts, AreOwn, HasChangedOne, KeepsEach}
pub use Rattle.dob_endpoint.specs.Keeps.{HasSameLinks, KeepsEndpoint}
pub use Rattle.dob_endpoint.specs.Links.{KeepsInlet, KeepsOutlet, offered, worked, worked_from}
pub use Rattle.dob_endpoint.specs.Slots.{held_from, in_slot}
pub use Rattle.dob_endpoint.specs.declared.endpoint.Endpoint.{Endpoint}
pub use Rattle.dob_endpoint.specs.declared.slots.Inlet.{Inlet}
pub use Rattle.dob_endpoint.specs.declared.slots.Outlet.{Outlet}
