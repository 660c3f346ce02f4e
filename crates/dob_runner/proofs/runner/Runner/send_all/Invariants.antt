-- It has sent to each node so far.
use Rattle.dob_runner.proofs.Common.{SendsBelow}
use Rattle.dob_runner.proofs.runner.Runner.send_all.Given as goal

abbrev pub invariant-loop-to : goal.invariant-loop-to
invariant-loop-to g l = SendsBelow l.to l.fn.small l.fn.self l.self l.sent
