-- The rounds so far are made, and none of them was still.
use Rattle.dob_world.proofs.Common.{false, HasDriven}
use Rattle.dob_world.proofs.world.World.drive.Given as goal

abbrev pub invariant-loop-round : goal.invariant-loop-round
invariant-loop-round l = HasDriven l.initial.self l._round false l.self
