-- The runner has gone on so far.
use Rattle.dob_runner.proofs.Common.{GoesOn, AddsFew}
use Rattle.dob_runner.proofs.runner.Runner.go.Given as goal

abbrev pub invariant-loop : goal.invariant-loop
invariant-loop g l = GoesOn l.fn.self l.self × AddsFew l.counter l.fn.self.endpoint l.self.endpoint
