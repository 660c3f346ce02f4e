-- What the masks of a position say of its digits and its piece set.
use Rattle.dob_rank.proofs.Common.{◌+◌, ◌-◌, ◌∙◌, ◌∷◌, ◌≡◌, ◌≤◌, List, [], arith, length, map, slice_index, ℕ, length-map, Cell, IsLegal, total, PieceSet, Setup, IsPositionOfSet, digits}
use Rattle.dob_rank.proofs.Common.{all_squares, from_mask, count, layer, on_board, order, Chicks, Elephants, Empty, EnemyLion, Giraffes, OwnLion}
use Rattle.dob_pieces.specs.declared.kind.HandKind.TheVariants as hand
use Rattle.dob_pieces.specs.Boards.{IsBoardOf}
use Rattle.dob_pieces.specs.declared.board.Board.{Board}
use Rattle.dob_rank.specs.BoardDigits.{ArePartsOf, AreNumbersOf}
use Rattle.dob_rank.proofs.Boards.BoardLayers.{AreMasks}
use Rattle.dob_rank.proofs.Positions.Digits.{HasParts-from_position}
use Rattle.dob_rank.proofs.Boards.LayerMasks.{later_are}
use Rattle.dob_rank.proofs.Positions.Sets.{set_of, IsPositionOfSet-set_of, few_in_layer}

-- what is left of all squares, layer by layer
pub record AreLeft (board : List Cell) (own enemy chicks elephants giraffes : ℕ) : Type 0 where
  pub long : length (map layer board) ≤ 12
  pub own_low : own ≤ all_squares
  pub enemy_low : enemy ≤ all_squares - own
  pub chicks_low : chicks ≤ all_squares - own - enemy
  pub elephants_low : elephants ≤ all_squares - own - enemy - chicks
  pub giraffes_low : giraffes ≤ all_squares - own - enemy - chicks - elephants
  pub after_own : all_squares - own ≡ from_mask (order EnemyLion) (map layer board)
  pub after_lions : all_squares - own - enemy ≡ from_mask (order Chicks) (map layer board)
  pub after_chicks : all_squares - own - enemy - chicks ≡ from_mask (order Elephants) (map layer board)
  pub after_elephants : all_squares - own - enemy - chicks - elephants ≡ from_mask (order Giraffes) (map layer board)
  pub empty : all_squares - own - enemy - chicks - elephants - giraffes ≡ from_mask (order Empty) (map layer board)

pub left_are : (board : List Cell) (own enemy chicks elephants giraffes : ℕ) → length board ≡ 12 → AreMasks board own enemy chicks elephants giraffes
    → AreLeft board own enemy chicks elephants giraffes
left_are board own enemy chicks elephants giraffes h are =
    let long : length (map layer board) ≡ 12 = length-map board layer ∙ h in
    grind (arith, later_are (map layer board) long)

-- the numbers on the board, and the pieces in all
pub record AreNumbers (s : Setup) (numbers : List ℕ) : Type 0 where
  pub own_lion : count (order OwnLion) (map layer s.board) ≡ 1
  pub enemy_lion : count (order EnemyLion) (map layer s.board) ≡ 1
  pub chicks_are : count (order Chicks) (map layer s.board) ≡ slice_index numbers 0
  pub elephants_are : count (order Elephants) (map layer s.board) ≡ slice_index numbers 1
  pub giraffes_are : count (order Giraffes) (map layer s.board) ≡ slice_index numbers 2
  pub few_chicks : slice_index numbers 0 ≤ 2
  pub few_elephants : slice_index numbers 1 ≤ 2
  pub few_giraffes : slice_index numbers 2 ≤ 2
  pub all_chicks : slice_index numbers 0 + s.hands.mover.chicks + s.hands.enemy.chicks ≡ total hand.Chick s
  pub all_elephants : slice_index numbers 1 + s.hands.mover.elephants + s.hands.enemy.elephants ≡ total hand.Elephant s
  pub all_giraffes : slice_index numbers 2 + s.hands.mover.giraffes + s.hands.enemy.giraffes ≡ total hand.Giraffe s

pub numbers_are : (s : Setup) (numbers : List ℕ) → IsLegal s → numbers ≡ on_board s → AreNumbers s numbers
numbers_are s numbers legal e =
    let parts = HasParts-from_position (set_of s legal) s (IsPositionOfSet-set_of s legal) in
    let chicks = few_in_layer s (order Chicks) legal (omega arith) in
    let elephants = few_in_layer s (order Elephants) legal (omega arith) in
    let giraffes = few_in_layer s (order Giraffes) legal (omega arith) in
    rw e (grind arith)

-- what a board that shows a position gives, by what the code counts and finds on it
module _ (board : Board) (numbers : List ℕ) (counts : (s : Setup) → IsBoardOf s board → length s.board ≡ 12 → numbers ≡ on_board s) (setup : Setup) where
  pub parts_shown : IsLegal setup → IsBoardOf setup board → ArePartsOf board numbers setup
  parts_shown legal squares = record { legal = legal; squares = squares; numbers_are = counts setup squares legal.squares }

  pub numbers_shown : (set : PieceSet) (all : List ℕ) → ((s : Setup) → ArePartsOf board numbers s → all ≡ digits s)
      → IsPositionOfSet set setup → IsBoardOf setup board → AreNumbersOf set numbers all setup
  numbers_shown set all found position squares = record {
    position = position;
    numbers_are = counts setup squares position.legal.squares;
    digits_are = found setup (parts_shown position.legal squares);
  }

pub small_total : (n total : ℕ) → n ≡ total → total ≤ 2 → n ≤ 2
small_total n total e h = omega arith

pub three : (a b c d e f : ℕ) → a ≡ d → b ≡ e → c ≡ f → a ∷ b ∷ c ∷ [] ≡ d ∷ e ∷ f ∷ []
three a b c d e f p q r = cc
