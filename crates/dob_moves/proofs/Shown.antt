-- A board shows one setup.
use Rattle.dob_moves.proofs.Common.{◌<◌, ◌==◌, ◌∙◌, ◌≡◌, Bool, List, None, Some, ap, cond, false, length, refl, sym, true, ℕ, board_by-from_cells}
use Rattle.dob_moves.proofs.Common.{Cell, IsBoardOf, IsMask, Setup, Hands, Kind, Side, Mover, Enemy, Lion, at, board_by, piece_of, is_enemy}
use Rattle.dob_pieces.specs.declared.board.Board.{Board}
use Rattle.dob_pieces.specs.Boards.{is_own_lion, is_enemy_lion, is_chick, is_elephant, is_giraffe, is_hen}
use Rattle.dob_pieces.specs.Setups.{setup_of}
use Rattle.dob_moves.specs.Shown.{cell_if, cell_on, has}
unfoldable pub use Rattle.dob_moves.specs.Shown.{setup_on}

one_is : (b : Bool) → (cond b 1 0 == 1) ≡ b
one_is true = refl
one_is false = refl

-- a set has just the squares that pass its test
has_is : (test : ℕ → Bool) (set square : ℕ) → IsMask test set → square < 12 → has set square ≡ test square
has_is test set square mask low = ap (λ (n : ℕ). n == 1) (mask.bits square low) ∙ one_is (test square)

-- the tests of a cell tell what it is
piece_told : (side : Side) (kind : Kind) (cell : Cell) → cell ≡ Some (piece_of side kind) →
    cell_if (is_own_lion cell) (is_enemy_lion cell) (is_enemy cell) (is_hen cell) (is_chick cell) (is_elephant cell) (is_giraffe cell) ≡ cell
piece_told Mover Lion cell is = rw is refl
piece_told Enemy Lion cell is = rw is refl
piece_told _ _ cell is = rw is refl

pub cell_told : (cell : Cell) →
    cell_if (is_own_lion cell) (is_enemy_lion cell) (is_enemy cell) (is_hen cell) (is_chick cell) (is_elephant cell) (is_giraffe cell) ≡ cell
cell_told None = refl
cell_told (Some piece) = piece_told piece.side piece.kind (Some piece) refl

module _ (p : Setup) (b : Board) (are : IsBoardOf p b) where
  cell_is : (square : ℕ) → square < 12 → at p square ≡ cell_on b square
  cell_is square low = sym (
      rw (
        has_is _ b.own_lion square are.own_lion_is low,
        has_is _ b.enemy_lion square are.enemy_lion_is low,
        has_is _ b.enemies square are.enemies_are low,
        has_is _ b.hens square are.hens_are low,
        has_is _ b.chicks square are.chicks_are low,
        has_is _ b.elephants square are.elephants_are low,
        has_is _ b.giraffes square are.giraffes_are low,
      ) (cell_told (at p square)))

  pub shown_is : length p.board ≡ 12 → setup_on b ≡ p
  unfolding setup_on
  shown_is twelve =
      ap (λ (hands : Hands). setup_of (board_by (cell_on b)) hands) are.hands_are
      ∙ sym (ap (λ (board : List Cell). setup_of board p.hands) (board_by-from_cells (cell_on b) p.board twelve cell_is))

-- a board with the cells that are shown is the one that is shown
pub filled : (b : Board) (board : List Cell) → board ≡ board_by (at (setup_on b)) → setup_of board b.hands ≡ setup_on b
unfolding setup_on
filled b board is =
    ap (λ (cells : List Cell). setup_of cells b.hands)
    (is ∙ sym (board_by-from_cells (at (setup_on b)) (setup_on b).board refl (λ k low. refl)))
