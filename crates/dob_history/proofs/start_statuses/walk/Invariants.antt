-- Those at the places so far are counted, and the one looked for isn't among them.
use Rattle.dob_history.proofs.Common.{◌-◌, ◌≡◌, ◌≤◌, settled_among, start_status}
use Rattle.dob_history.proofs.start_statuses.walk.Given as goal

abbrev pub invariant-loop-now : goal.invariant-loop-now
invariant-loop-now l = record {
  count : l.stood ≡ settled_among (start_status l.statuses) l.here;
  before : l.stood ≤ l.number;
  within : l.here ≤ l.statuses.places;
}

abbrev pub decreases-loop-now : goal.decreases-loop-now
decreases-loop-now l = l.statuses.places - l.here
