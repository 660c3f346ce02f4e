-- Steps and drops, counted by the mover's pieces.
use Rattle.dob_moves.proofs.FewMoves.{moves_few}
use Rattle.dob_moves.proofs.laws.moves_are_few.Goals as goal

pub returns : goal.returns
returns c = moves_few
