-- Each so far knows of it.
use Rattle.dob_run.proofs.Common.{◌<◌, ◌≡◌, Some, ℕ, slice_get, Runner}
use Rattle.dob_run.proofs.build_end.all_know.Given as goal

abbrev pub invariant-loop-runner : goal.invariant-loop-runner
invariant-loop-runner l = (k : ℕ) (runner : Runner) → k < l.runner-index → slice_get l.runners k ≡ Some runner → runner.endpoint.seat.stand.halt ≡ l.halt
