-- The items of the parts so far, and room for those of the others.
use Rattle.dob_update.proofs.Common.{◌+◌, ◌≤◌, drop, items_in_all, vec_capacity, vec_len}
use Rattle.dob_update.proofs.PartItems.{IsMaking}
use Rattle.dob_update.proofs.batch.push_parts.Given as goal

abbrev pub invariant-loop-part : goal.invariant-loop-part
invariant-loop-part l = record {
  making : IsMaking l.parts l.classes l.part-index l.next l.fn.list.items l.list.items;
  room : vec_len l.list + items_in_all (drop l.part-index l.parts) ≤ vec_capacity l.list;
}
