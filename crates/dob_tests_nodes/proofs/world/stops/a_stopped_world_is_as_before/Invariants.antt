-- Each world stands, or it has stopped.
use Rattle.std.proofs.Common.{◌≡◌}
use Rattle.dob_world.specs.Standing.{StandsOrStopped}
use Rattle.dob_tests_nodes.proofs.world.stops.a_stopped_world_is_as_before.Given as goal

abbrev pub invariant-loop-number : goal.invariant-loop-number
invariant-loop-number g l = StandsOrStopped l.world × StandsOrStopped l.twin × (l.world.node_count ≡ 2) × (l.twin.node_count ≡ 2)
