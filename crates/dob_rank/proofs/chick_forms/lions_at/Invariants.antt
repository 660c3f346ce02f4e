-- The number stands between the two sums, which come closer.
use Rattle.dob_rank.proofs.Common.{◌-◌, ◌<◌, ◌≤◌, B, lion_pairs, lions_before}
use Rattle.dob_rank.proofs.chick_forms.lions_at.Given as goal

abbrev pub invariant-loop-high : goal.invariant-loop-high
invariant-loop-high l = record {
  apart : l.low < l.high;
  within : l.high ≤ lion_pairs;
  low_is : lions_before B l.chicks l.low ≤ l.number;
  high_is : l.number < lions_before B l.chicks l.high;
}

abbrev pub decreases-loop-high : goal.decreases-loop-high
decreases-loop-high l = l.high - l.low
