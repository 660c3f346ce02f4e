-- The lists are those of the code's two walks.
use Rattle.dob_moves.proofs.MoveLists.{AreMoves-moves_of}
use Rattle.dob_moves.proofs.laws.lists_have_moves.Goals as goal

pub returns : goal.returns
returns c = λ profile p legal. AreMoves-moves_of profile p legal.squares
