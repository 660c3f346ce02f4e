-- The node is on one level, and was on one before, or on none.
use Rattle.dob_runner.proofs.Common.{arith}
use Rattle.dob_runner.proofs.TurnParts.{small_idle, small_above, small_later}
use Rattle.dob_runner.proofs.runner.Runner.sends_small.Goals as goal

pub returns-in_default : goal.returns-in_default
returns-in_default c = λ node was. small_idle c.args.took c.args.limit node c.args.self.now.node c.in_default.ensures

pub returns-then-now-limit : goal.returns-then-now-limit
returns-then-now-limit c = λ node was. small_above c.args.took c.args.limit c.in-Some.now node c.args.self.now.node c.in-Some.ensures (omega (arith, c.if-now-limit.true))

pub returns : goal.returns
returns c = λ node was. small_later c.args.took c.has_risen.result c.args.limit c.in-Some.now c.args.was node c.args.self.now.node c.in-Some.ensures
    (omega (arith, c.if-now-limit.false)) was c.has_risen.ensures
