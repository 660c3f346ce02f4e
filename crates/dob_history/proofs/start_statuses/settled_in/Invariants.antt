-- Those at the places so far are counted.
use Rattle.dob_history.proofs.Common.{◌≡◌, ◌≤◌, settled_among, start_status}
use Rattle.dob_history.proofs.start_statuses.settled_in.Given as goal

abbrev pub invariant-loop-place : goal.invariant-loop-place
invariant-loop-place l = record {
  count : l.settled ≡ settled_among (start_status l.statuses) l.place;
  few : l.settled ≤ l.place;
}
