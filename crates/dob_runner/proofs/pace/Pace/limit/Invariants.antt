-- The least so far.
use Rattle.dob_runner.specs.Paces.{IsLeastOther}
use Rattle.dob_runner.proofs.pace.Pace.limit.Given as goal

abbrev pub invariant-loop-node : goal.invariant-loop-node
invariant-loop-node l = IsLeastOther l.self.node l.node l.self.told.items l.least
