-- Where not all are expanded the next has a level.
use Rattle.dob_node.proofs.Common.{◌<◌, ◌≤◌, NodeView, arith, length, subst, sym}
use Rattle.dob_node.specs.Levels.{HasLevel}
use Rattle.dob_history.proofs.Stored.{some_at}
use Rattle.dob_node.proofs.node.Node.level.Goals as goal

pub returns : goal.returns
returns c =
    let core = c.self.inside.core in
    let emitted : core.expanded ≤ length core.history.settlements
    = subst (λ (n : NodeView). n.expanded ≤ length n.history.settlements) (sym c.self.view_is) c.requires.emitted in
    let low : core.expanded < length core.history.settlements = omega (arith, emitted, c.len.ensures.count, c.if-self-len.false) in
    let next = some_at core.history.settlements core.expanded low in
    subst (λ (n : NodeView). HasLevel n c.level.result) c.self.view_is (next.0, next.1, c.level.ensures next.0 next.1)
