-- The walk stands at the place or before it, and what is counted is what it has passed.
use Rattle.dob_classes.proofs.Common.{◌+◌, ◌-◌, ◌≡◌, ◌≤◌, IsWalk, marks_before}
use Rattle.dob_classes.proofs.class_walks.MixedRun.walk_to.Given as goal

abbrev pub invariant-loop-at : goal.invariant-loop-at
invariant-loop-at l = record {
  walk : IsWalk l.self l.at;
  upto : l.at.place ≤ l.place;
  count : marks_before l.self l.walk.number + l.count ≡ marks_before l.self l.at.number;
}

abbrev pub decreases-loop-at : goal.decreases-loop-at
decreases-loop-at l = l.place - l.at.place
