-- None so far holds it up.
use Rattle.dob_runner.proofs.Common.{◌<◌, ℕ, HoldsUp}
use Rattle.dob_runner.proofs.runner.Runner.is_held_up.Given as goal

abbrev pub invariant-loop-to : goal.invariant-loop-to
invariant-loop-to l = (k : ℕ) → k < l.to → ¬ HoldsUp l.fn.self k
