-- The things of the rows gone over stand in order, and the other rows are left.
use Rattle.dob_inboxes.proofs.Common.{ℕ, into_iter_items, AreInOrder}
use Rattle.dob_endpoint.proofs.Places.{HaveGone}
use Rattle.dob_inboxes.proofs.rows.join.Given as goal

abbrev pub invariant-loop-row : goal.invariant-loop-row
invariant-loop-row g l = record {
  done : ℕ;
  gone : HaveGone l.fn.rows.items (into_iter_items l.row-iterator) done;
  so_far : AreInOrder l.width done l.fn.rows.items l.things.items;
}
