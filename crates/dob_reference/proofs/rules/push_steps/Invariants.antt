-- The steps from the squares so far are appended.
use Rattle.std.proofs.Common.{◌++◌, ◌≡◌}
use Rattle.dob_pieces.specs.Lists.{each_below}
use Rattle.dob_moves.specs.Walks.{steps_from}
use Rattle.dob_moves.specs.declared.first_moves.Aim.TheVariants.{Elsewhere}
use Rattle.dob_reference.proofs.rules.push_steps.Given as goal

abbrev pub invariant-loop-index : goal.invariant-loop-index
invariant-loop-index l = l.moves.items ≡ l.initial.moves.items ++ each_below (steps_from Elsewhere l.setup) l.index
