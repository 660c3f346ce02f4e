-- The run sought is none before the lower one, and one of so many.
use Rattle.dob_classes.proofs.Common.{◌+◌, ◌<◌, ◌≤◌, lion_pairs, classes_to_run}
use Rattle.dob_classes.proofs.block_classes.BlockClasses.lions_at.Given as goal

abbrev pub invariant-loop-runs : goal.invariant-loop-runs
invariant-loop-runs l = record {
  some : 0 < l.runs;
  within : l.low + l.runs ≤ lion_pairs;
  low_is : classes_to_run l.self.family l.self.number l.low ≤ l.self.before + l.left;
  high_is : l.self.before + l.left < classes_to_run l.self.family l.self.number (l.low + l.runs);
}

abbrev pub decreases-loop-runs : goal.decreases-loop-runs
decreases-loop-runs l = l.runs
