-- The world has stopped, or stands.
use Rattle.std.proofs.Common.{◌≡◌}
use Rattle.dob_world.specs.Standing.{StandsOrStopped}
use Rattle.dob_tests_nodes.proofs.world.stops.answers_the_same.Given as goal

abbrev pub invariant-loop-event : goal.invariant-loop-event
invariant-loop-event g l = StandsOrStopped l.world × (l.world.node_count ≡ 2)
