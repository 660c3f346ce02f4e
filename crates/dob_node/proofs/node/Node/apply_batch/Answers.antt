-- What the core has applied the node has.
use Rattle.dob_node.proofs.Nodes.{applied_all}
use Rattle.dob_node.proofs.node.Node.apply_batch.Goals as goal

pub returns-clause-step : goal.returns-clause-step
returns-clause-step c = rw (← c.self.view_is, c.noted.ensures.same) (applied_all c.args.batch.now.items c.apply_batch.result c.self.inside.core
    c.apply_batch.new.self c.self.inside.failed c.noted.new.failed c.apply_batch.ensures.step)
