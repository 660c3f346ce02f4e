-- Both runners keep their places so far, and are of the classes' family.
use Rattle.std.proofs.Common.{◌≡◌}
use Rattle.dob_runner.specs.Runners.{KeepsRunner}
use Rattle.dob_tests_threads.proofs.run.turns.turn_to_the_end.Given as goal

abbrev pub invariant-loop : goal.invariant-loop
invariant-loop g l = record {
  one : KeepsRunner l.fn.first l.first;
  other : KeepsRunner l.fn.second l.second;
  families : (l.classes.family ≡ l.first.family) × (l.classes.family ≡ l.second.family);
}
