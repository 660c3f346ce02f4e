-- The entries so far are of the next depth, the others of this one.
use Rattle.dob_value.proofs.Common.{◌+◌, ◌≡◌, false, true, AreSwept, SomeHasDistance}
use Rattle.dob_value.proofs.sweep.sweep_once.Given as goal

abbrev pub invariant-loop-number : goal.invariant-loop-number
invariant-loop-number l = record {
  swept : AreSwept l.depth l.number l.graph.family l.values;
  found : l.found ≡ true → SomeHasDistance l.graph.family (l.depth + 1);
  same : l.found ≡ false → l.values ≡ l.initial.values;
}
