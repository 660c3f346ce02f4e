-- The nodes so far are opened.
use Rattle.dob_world.specs.Start.{AreOpenedNodes}
use Rattle.dob_world.proofs.parts.open_nodes.Given as goal

abbrev pub invariant-loop-id : goal.invariant-loop-id
invariant-loop-id l = AreOpenedNodes l.openings l.family l.node_count l.id l.nodes.items
