-- The items for the classes so far are appended, and there is room for the others.
use Rattle.dob_update.proofs.Common.{◌++◌, ◌+◌, ◌≡◌, drop, item_for, map, take, vec_capacity, vec_len}
use Rattle.dob_update.proofs.batch.push_part_items.Given as goal

abbrev pub invariant-loop-index : goal.invariant-loop-index
invariant-loop-index l = record {
  items : l.list.items ≡ l.initial.list.items ++ map (item_for l.settlement) (take l.index (drop l.start l.classes));
  len : vec_len l.list ≡ vec_len l.initial.list + l.index;
  capacity : vec_capacity l.list ≡ vec_capacity l.initial.list;
}
