-- The lion, and the other pieces that aren't the enemy's.
use Rattle.dob_pieces.proofs.Common.{◌&&◌, ◌||◌, not, refl, is_own}
use Rattle.dob_pieces.specs.Boards.{is_enemy, is_other, is_own_lion}
use Rattle.dob_pieces.proofs.CellPlanes.{squares_same}
use Rattle.dob_pieces.proofs.board.Board.own.Goals as goal

pub returns : goal.returns
returns c = λ setup are.
    squares_same setup (λ cell. is_own_lion cell || (is_other cell && not (is_enemy cell))) is_own _ refl
    (c.or.ensures _ _ are.own_lion_is (c.but_not.ensures _ _ (c.others.ensures setup are) are.enemies_are))
