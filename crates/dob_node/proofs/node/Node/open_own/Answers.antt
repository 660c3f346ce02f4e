-- The node of the share of its own openings, which are those of the family.
use Rattle.dob_node.proofs.Common.{IfOk-weaker, IsNewShare, IsOpenedBy, IsOpenedOf}
use Rattle.dob_history.proofs.Found.{some_openings, own_are}
use Rattle.dob_node.proofs.node.Node.open_own.Goals.{In_ok-share}
use Rattle.dob_node.proofs.node.Node.open_own.Goals as goal

is_new : (c : In_ok-share) → IsNewShare (some_openings c.args.classes.now.family).0 c.args.nodes c.args.id c.in_ok-share.share
is_new c =
    let family = c.args.classes.now.family in
    let openings = some_openings family in
    c.in_ok-share.ensures openings.0 (own_are family openings.0 c.in_ok-own.own c.args.nodes c.args.id openings.1 c.in_ok-own.ensures)

pub node_with-requires-clause-share : goal.node_with-requires-clause-share
node_with-requires-clause-share c =
    let openings = some_openings c.args.classes.now.family in
    (openings.0, openings.1, is_new (goal.at.node_with-requires-clause-share c).In_ok-share)

pub returns-clause-opened : goal.returns-clause-opened
returns-clause-opened c =
    let family = c.args.classes.now.family in
    let openings = some_openings family in
    IfOk-weaker c.node_with.result (IsOpenedBy c.in_ok-share.share family c.args.id c.args.nodes) (IsOpenedOf family c.args.id c.args.nodes)
    (λ node opened. (openings.0, openings.1, opened openings.0 openings.1 (is_new (goal.at.returns-clause-opened c).In_ok-share))) c.node_with.ensures.opened
