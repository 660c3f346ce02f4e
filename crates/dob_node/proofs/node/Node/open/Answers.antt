-- The node of the share of what is listed.
use Rattle.dob_node.proofs.Common.{IfOk-weaker, IsOpened, IsOpenedBy}
use Rattle.dob_node.proofs.node.Node.open.Goals as goal

pub node_with-requires-clause-share : goal.node_with-requires-clause-share
node_with-requires-clause-share c = (c.args.openings.now, c.requires.openings, c.in_ok-share.ensures)

pub returns-clause-opened : goal.returns-clause-opened
returns-clause-opened c = IfOk-weaker c.node_with.result (IsOpenedBy c.in_ok-share.share c.args.family c.args.id c.args.nodes)
    (IsOpened c.args.openings.now c.args.family c.args.id c.args.nodes)
    (λ node opened. opened c.args.openings.now c.requires.openings c.in_ok-share.ensures) c.node_with.ensures.opened
