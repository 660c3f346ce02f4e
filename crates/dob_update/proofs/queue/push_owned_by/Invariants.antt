-- The owner's among the targets so far are appended, and there is room for the others.
use Rattle.dob_update.proofs.Common.{◌++◌, ◌+◌, ◌-◌, ◌==◌, ◌≡◌, ◌≤◌, filter, length, owner_of, take, vec_capacity, vec_len}
use Rattle.dob_update.proofs.queue.push_owned_by.Given as goal

abbrev pub invariant-loop-class : goal.invariant-loop-class
invariant-loop-class g l = record {
  appended : l.classes.items ≡ l.initial.classes.items ++ filter (λ class. owner_of l.nodes class == l.to) (take l.class-index l.targets);
  room : vec_len l.classes + (length l.targets - l.class-index) ≤ vec_capacity l.classes;
  number : l.number ≡ l.nodes;
  capacity : vec_capacity l.classes ≡ vec_capacity l.initial.classes;
}
