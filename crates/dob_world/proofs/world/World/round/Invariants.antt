-- The events of the round so far are made.
use Rattle.std.proofs.Common.{◌≡◌}
use Rattle.dob_world.proofs.Driven.{Partway}
use Rattle.dob_world.proofs.world.World.round.Given as goal

abbrev pub invariant-loop-place : goal.invariant-loop-place
invariant-loop-place l = record {
  way : Partway l.initial.self l.self l.place;
  before : l.before ≡ l.initial.self.steps;
  nodes : l.nodes ≡ l.initial.self.node_count;
}
