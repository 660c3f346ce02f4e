-- The values so far are those of the classes at the places so far.
use Rattle.dob_node.proofs.Nodes.{AreValuesBelow}
use Rattle.dob_node.proofs.node_core.Core.own_values.Given as goal

abbrev pub invariant-loop-place : goal.invariant-loop-place
invariant-loop-place l = AreValuesBelow l.self.share l.place l.values.items
