-- The runner has gone on so far, and has expanded a settlement, and none above the level.
use Rattle.dob_runner.proofs.Common.{true, ExpandsSome}
use Rattle.dob_runner.proofs.runner.Runner.expand_all.Given as goal

abbrev pub invariant-loop : goal.invariant-loop
invariant-loop l = ExpandsSome l.limit l.fn.self l.self true
