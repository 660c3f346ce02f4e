-- The number of marks stands between the two entries, which come closer.
use Rattle.std.proofs.Common.{◌-◌}
use Rattle.dob_classes.specs.declared.stretches.Stretch.{Stretch}
use Rattle.dob_classes.proofs.MarksOfRuns.StretchLists.{IsBetween}
use Rattle.dob_classes.proofs.stretch_tables.StretchTable.number_at.Given as goal

abbrev pub invariant-loop-high : goal.invariant-loop-high
invariant-loop-high l = IsBetween (λ (s : Stretch). s.before) l.self.list.items l.low l.high l.marks

abbrev pub decreases-loop-high : goal.decreases-loop-high
decreases-loop-high l = l.high - l.low
