-- The entries of the positions before the walk stand, and the count is of their marks.
use Rattle.dob_classes.proofs.Common.{◌-◌, ◌<◌, ◌≡◌, local_marks_in, AreStretches, EndsWith, IsWalk, marks_before}
use Rattle.dob_classes.proofs.stretch_tables.StretchTable.open.Given as goal

abbrev pub invariant-loop-walk : goal.invariant-loop-walk
invariant-loop-walk l = record {
  walk : IsWalk l.mixed l.walk;
  are : AreStretches (local_marks_in l.family l.block l.run) l.walk.number l.list.items;
  counted : l.count ≡ marks_before l.mixed l.walk.number;
  last_is : 0 < l.walk.number → EndsWith l.list.items l.last;
}

abbrev pub decreases-loop-walk : goal.decreases-loop-walk
decreases-loop-walk l = l.size - l.walk.place
