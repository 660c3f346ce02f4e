-- The node is of the family, sound, and hasn't failed.
use Rattle.std.proofs.Common.{◌≡◌}
use Rattle.std.specs.Prelude.{None}
use Rattle.dob_node.specs.Nodes.{IsSound}
use Rattle.dob_tests_nodes.proofs.node.part_of.Given as goal

abbrev pub invariant-loop-step : goal.invariant-loop-step
invariant-loop-step g l = IsSound l.node × (l.node.failed ≡ None) × (l.classes.family ≡ l.node.family)
