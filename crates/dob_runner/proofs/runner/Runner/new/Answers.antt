-- A node that was opened and an endpoint that nothing has gone over make a lawful runner, which hasn't failed.
use Rattle.dob_runner.proofs.Lawfuls.{begun}
use Rattle.dob_runner.proofs.runner.Runner.new.Goals as goal

pub invariant_of-result-clause-lawful : goal.invariant_of-result-clause-lawful
invariant_of-result-clause-lawful c = λ _. begun c.args.family c.args.batch_size c.args.node c.args.endpoint c.requires
