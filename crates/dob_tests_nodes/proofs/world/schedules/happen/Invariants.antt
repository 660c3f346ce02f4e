-- The world stands after each event, and has as many nodes as ever.
use Rattle.std.proofs.Common.{◌≡◌, None}
use Rattle.dob_world.specs.Standing.{IsStanding, StandsOrStopped}
use Rattle.dob_tests_nodes.proofs.world.schedules.happen.Given as goal

abbrev pub invariant-loop-event : goal.invariant-loop-event
invariant-loop-event g l = IsStanding l.world × StandsOrStopped l.world × (l.world.failed ≡ None) × (l.world.node_count ≡ l.n)
