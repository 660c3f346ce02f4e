-- The things left are those from the place on, and those before it stand at the ends of their rows.
use Rattle.dob_inboxes.proofs.Common.{into_iter_items, AreDealt}
use Rattle.dob_endpoint.proofs.Places.{HaveGone}
use Rattle.dob_inboxes.proofs.rows.push_each.Given as goal

abbrev pub invariant-loop-place : goal.invariant-loop-place
invariant-loop-place g l = record {
  rest : HaveGone l.fn.things.items (into_iter_items l.place-iterator.iter) l.place-iterator.count;
  dealt : AreDealt l.place-iterator.count l.fn.things.items l.fn.rows.items l.rows.items;
}
