-- None so far has failed.
use Rattle.dob_run.proofs.Common.{◌<◌, ◌≡◌, None, Some, ℕ, slice_get, Runner}
use Rattle.dob_run.proofs.build_end.find_failed.Given as goal

abbrev pub invariant-loop-node : goal.invariant-loop-node
invariant-loop-node l = (k : ℕ) (runner : Runner) → k < l.node → slice_get l.runners k ≡ Some runner → runner.failed ≡ None
