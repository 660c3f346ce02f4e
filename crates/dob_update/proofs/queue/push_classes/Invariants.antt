-- The classes so far are appended, and there is room for the others.
use Rattle.dob_update.proofs.Common.{◌++◌, ◌+◌, ◌-◌, ◌≡◌, ◌≤◌, length, map, take, target_of, vec_capacity, vec_len}
use Rattle.dob_update.proofs.queue.push_classes.Given as goal

abbrev pub invariant-loop-item : goal.invariant-loop-item
invariant-loop-item l = record {
  appended : l.classes.items ≡ l.initial.classes.items ++ map target_of (take l.item-index l.items);
  room : vec_len l.classes + (length l.items - l.item-index) ≤ vec_capacity l.classes;
}
