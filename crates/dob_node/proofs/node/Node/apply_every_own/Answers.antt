-- What the core has applied the node has.
use Rattle.dob_node.proofs.Nodes.{applied_every}
use Rattle.dob_node.proofs.node.Node.apply_every_own.Goals as goal

pub returns-clause-step : goal.returns-clause-step
returns-clause-step c = rw (← c.self.view_is, c.noted.ensures.same) (applied_every c.apply_every_own.result c.self.inside.core
    c.apply_every_own.new.self c.self.inside.failed c.noted.new.failed c.apply_every_own.ensures.step)
