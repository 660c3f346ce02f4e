-- The batches sent to the nodes so far and to the next make one step of the runner, which fails where the next fails.
use Rattle.dob_runner.proofs.Common.{SendsAll}
use Rattle.dob_runner.proofs.Keeping.{broken_on}
use Rattle.dob_runner.proofs.Sending.{none_sent, sends_more}
use Rattle.dob_runner.proofs.runner.Runner.send_all.Goals as goal

pub loop-to-init : goal.loop-to-init
loop-to-init g c = none_sent c.args.small c.args.self.now c.requires

pub returns-in_err-sent : goal.returns-in_err-sent
returns-in_err-sent g c = broken_on (SendsAll c.args.small) c.args.self.now c.loop-to.self c.send_to.new.self c.from_residual.result c.in_err-sent.field-0.0
    c.from_residual.ensures.1 c.loop-to.invariant.goes.keeps c.loop-to.invariant.goes.still c.in_err-sent.ensures

pub loop-to-preserved : goal.loop-to-preserved
loop-to-preserved g c =
    sends_more c.args.small c.loop-to.to c.args.self.now c.loop-to.self c.send_to.new.self c.loop-to.sent c.in_ok-sent.field-0 c.loop-to.invariant c.in_ok-sent.ensures
