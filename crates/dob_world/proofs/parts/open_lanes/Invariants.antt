-- The lanes so far are empty.
use Rattle.dob_world.specs.Start.{AreEmptyLanes}
use Rattle.dob_world.proofs.parts.open_lanes.Given as goal

abbrev pub invariant-loop-place : goal.invariant-loop-place
invariant-loop-place l = AreEmptyLanes l.capacity l._place l.lanes.items
