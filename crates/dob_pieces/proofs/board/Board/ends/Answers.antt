-- Empty squares, and enemy pieces.
use Rattle.dob_pieces.proofs.Common.{◌||◌, refl, is_empty, is_end}
use Rattle.dob_pieces.specs.Boards.{is_enemy}
use Rattle.dob_pieces.proofs.CellPlanes.{squares_same}
use Rattle.dob_pieces.proofs.board.Board.ends.Goals as goal

pub returns : goal.returns
returns c = λ setup are.
    squares_same setup (λ cell. is_empty cell || is_enemy cell) is_end _ refl (c.or.ensures _ _ (c.empty.ensures setup are) are.enemies_are)
