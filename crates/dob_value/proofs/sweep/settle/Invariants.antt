-- The entries are the values cut off at the depth reached.
use Rattle.dob_value.proofs.Common.{◌-◌, ◌≤◌, AreCutOff, MAX_DISTANCE}
use Rattle.dob_value.proofs.sweep.settle.Given as goal

abbrev pub invariant-loop-depth : goal.invariant-loop-depth
invariant-loop-depth l = record { cut_off : AreCutOff l.depth l.graph.family l.values.items; below : l.depth ≤ MAX_DISTANCE }

abbrev pub decreases-loop-depth : goal.decreases-loop-depth
decreases-loop-depth l = 65535 - l.depth
