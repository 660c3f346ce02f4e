-- Nothing was found so far.
use Rattle.std.proofs.Common.{None, ◌≡◌}
use Rattle.dob_pieces.specs.Lists.{each_below}
use Rattle.dob_moves.specs.Walks.{first, steps_from}
use Rattle.dob_reference.proofs.first_moves.first_step.Given as goal

abbrev pub invariant-loop-index : goal.invariant-loop-index
invariant-loop-index l = first (each_below (steps_from l.aim l.setup) l.index) ≡ None
