-- The values are those that were read of the node's core.
use Rattle.dob_node.proofs.Common.{AreValuesNow, NodeView, subst}
use Rattle.dob_node.proofs.Nodes.{sound_core}
use Rattle.dob_node.proofs.node.Node.into_part.Goals as goal

pub own_values-requires : goal.own_values-requires
own_values-requires c = sound_core c.self.inside.core c.self.inside.failed c.args.self c.self.view_is c.requires

pub returns-clause-values : goal.returns-clause-values
returns-clause-values c = subst (λ (node : NodeView). AreValuesNow node.share c.in_ok-values.values.items) c.self.view_is c.in_ok-values.ensures
