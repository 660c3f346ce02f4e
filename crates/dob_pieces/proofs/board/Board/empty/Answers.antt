-- All squares but those of lions and other pieces.
use Rattle.dob_pieces.proofs.Common.{◌&&◌, ◌||◌, ℕ, not, refl, true, is_empty}
use Rattle.dob_pieces.specs.Boards.{is_enemy_lion, is_other, is_own_lion}
use Rattle.dob_pieces.proofs.CellPlanes.{everywhere, squares_same}
use Rattle.dob_pieces.proofs.board.Board.empty.Goals as goal

pub returns : goal.returns
returns c = λ setup are.
    squares_same setup (λ cell. true && not ((is_own_lion cell || is_enemy_lion cell) || is_other cell)) is_empty _ refl
    (c.but_not.ensures (λ (s : ℕ). true) _ (everywhere (λ (s : ℕ). true) (λ s. refl))
    (c.or.ensures _ _ (c.or-lions.ensures _ _ are.own_lion_is are.enemy_lion_is) (c.others.ensures setup are)))
