-- The seats gone over have their endpoints, and as many rows and inlets are used up.
use Rattle.dob_crew.proofs.Common.{length, into_iter_items, AreSeated}
use Rattle.dob_endpoint.proofs.Places.{HaveGone}
use Rattle.dob_crew.proofs.crew_open.seat_all.Given as goal

abbrev pub invariant-loop-seat : goal.invariant-loop-seat
invariant-loop-seat l = record {
  seats_are : HaveGone l.fn.seats.items (into_iter_items l.seat-iterator.a.a) (length l.endpoints.items);
  rows_are : HaveGone l.fn.rows.items (into_iter_items l.seat-iterator.a.b) (length l.endpoints.items);
  inlets_are : HaveGone l.fn.inlets.items (into_iter_items l.seat-iterator.b) (length l.endpoints.items);
  so_far : AreSeated (length l.endpoints.items) l.fn.seats.items l.fn.rows.items l.fn.inlets.items l.endpoints.items;
}
