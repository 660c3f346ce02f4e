-- The world stands, and has as many nodes as ever.
use Rattle.std.proofs.Common.{◌≡◌}
use Rattle.dob_world.specs.Standing.{IsStanding, StandsOrStopped}
use Rattle.dob_answers.proofs.about_world.tell_events.Given as goal

abbrev pub invariant-loop-word : goal.invariant-loop-word
invariant-loop-word l = IsStanding l.world × StandsOrStopped l.world × (l.world.node_count ≡ l.nodes)
