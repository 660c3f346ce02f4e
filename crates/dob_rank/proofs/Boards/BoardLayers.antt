-- What the sets of a board show: the layers of its setup as masks, and the form of a piece by the sets that have its square.
use Rattle.dob_rank.proofs.Common.{◌*◌, ◌+◌, ◌-◌, ◌/◌, ◌<◌, ◌^◌, ◌∙◌, ◌∷◌, ◌≡◌, List, None, [], ap, arith, bit_and, get_or, inl, inr, length, map}
use Rattle.dob_rank.proofs.Common.{refl, slice_index_or, suc, sym, zero, ℕ, cases_eq, eq-eqb, ne_eqb, one_if, Cell, at, Setup, count, layer, order}
use Rattle.dob_rank.proofs.Common.{form, Chicks, Bool, Elephants, EnemyLion, Giraffes, OwnLion}
use Rattle.std.proofs.Common.{◌==◌}
use Rattle.std.proofs.lemmas.Nat.Bits.{bit_at-suc}
use Rattle.std.specs.Int.{bit_at}
use Rattle.dob_pieces.specs.Masks.{AreSquares}
use Rattle.dob_rank.proofs.Boards.Choices.{count_other, count_same}
use Rattle.dob_pieces.specs.Boards.{IsBoardOf, is_chick, is_elephant, is_enemy, is_enemy_lion, is_giraffe, is_hen, is_own_lion}
use Rattle.dob_pieces.specs.declared.board.Board.{Board}
use Rattle.dob_rank.proofs.Boards.EachCell.{of_cell}
use Rattle.dob_rank.specs.Masks.{layer_mask}
use Rattle.dob_rank.proofs.Boards.LayerMasks.{first_square, second_square, lowest, first_found, second_found}

-- the lowest bit of a number, and the others
halves : (n : ℕ) → n ≡ bit_at n 0 + 2 * (n / 2)
halves n = omega arith

-- a number whose bits are those of a layer's cells is the layer's mask
bits_mask : (t m : ℕ) (cells : List Cell) → m < 2 ^ length cells
    → ((k : ℕ) → k < length cells → bit_at m k ≡ one_if (layer (slice_index_or cells k None) == t)) → m ≡ layer_mask t (map layer cells)
bits_mask t m [] lt bits = omega (arith, lt)
bits_mask t m (cell ∷ cells) lt bits =
    let two : 2 ^ suc (length cells) ≡ 2 * 2 ^ length cells = omega arith in
    let rest = bits_mask t (m / 2) cells (omega (arith, lt, two))
    (λ k below. sym (bit_at-suc m k) ∙ bits (suc k) (omega (arith, below))) in
    halves m ∙ ap (λ (n : ℕ). n + 2 * (m / 2)) (bits zero (omega arith)) ∙ ap (λ (n : ℕ). one_if (layer cell == t) + 2 * n) rest

-- the squares whose cells pass a test that says the same as the layer
layer_of_squares : (t : ℕ) (test : Cell → Bool) (setup : Setup) (mask : ℕ) → ((cell : Cell) → test cell ≡ (layer cell == t))
    → length setup.board ≡ 12 → AreSquares setup test mask → mask ≡ layer_mask t (map layer setup.board)
layer_of_squares t test setup mask same twelve are =
    bits_mask t mask setup.board (rw twelve are.within)
    (λ k lt. are.bits k (rw twelve at lt) ∙ ap one_if (same (slice_index_or setup.board k None)))

own_lion_layer : (cell : Cell) → is_own_lion cell ≡ (layer cell == order OwnLion)
own_lion_layer = of_cell (λ cell. is_own_lion cell ≡ (layer cell == order OwnLion)) refl (refl, refl, refl, refl, refl) (refl, refl, refl, refl, refl)

enemy_lion_layer : (cell : Cell) → is_enemy_lion cell ≡ (layer cell == order EnemyLion)
enemy_lion_layer = of_cell (λ cell. is_enemy_lion cell ≡ (layer cell == order EnemyLion)) refl (refl, refl, refl, refl, refl) (refl, refl, refl, refl, refl)

chick_layer : (cell : Cell) → is_chick cell ≡ (layer cell == order Chicks)
chick_layer = of_cell (λ cell. is_chick cell ≡ (layer cell == order Chicks)) refl (refl, refl, refl, refl, refl) (refl, refl, refl, refl, refl)

elephant_layer : (cell : Cell) → is_elephant cell ≡ (layer cell == order Elephants)
elephant_layer = of_cell (λ cell. is_elephant cell ≡ (layer cell == order Elephants)) refl (refl, refl, refl, refl, refl) (refl, refl, refl, refl, refl)

giraffe_layer : (cell : Cell) → is_giraffe cell ≡ (layer cell == order Giraffes)
giraffe_layer = of_cell (λ cell. is_giraffe cell ≡ (layer cell == order Giraffes)) refl (refl, refl, refl, refl, refl) (refl, refl, refl, refl, refl)

-- five numbers are the masks of a board's layers
pub record AreMasks (cells : List Cell) (own enemy chicks elephants giraffes : ℕ) : Type 0 where
  pub own_is : own ≡ layer_mask (order OwnLion) (map layer cells)
  pub enemy_is : enemy ≡ layer_mask (order EnemyLion) (map layer cells)
  pub chicks_are : chicks ≡ layer_mask (order Chicks) (map layer cells)
  pub elephants_are : elephants ≡ layer_mask (order Elephants) (map layer cells)
  pub giraffes_are : giraffes ≡ layer_mask (order Giraffes) (map layer cells)

pub masks_are : (setup : Setup) (board : Board) → length setup.board ≡ 12 → IsBoardOf setup board
    → AreMasks setup.board board.own_lion board.enemy_lion board.chicks board.elephants board.giraffes
masks_are setup board twelve are = record {
  own_is = layer_of_squares (order OwnLion) is_own_lion setup board.own_lion own_lion_layer twelve are.own_lion_is;
  enemy_is = layer_of_squares (order EnemyLion) is_enemy_lion setup board.enemy_lion enemy_lion_layer twelve are.enemy_lion_is;
  chicks_are = layer_of_squares (order Chicks) is_chick setup board.chicks chick_layer twelve are.chicks_are;
  elephants_are = layer_of_squares (order Elephants) is_elephant setup board.elephants elephant_layer twelve are.elephants_are;
  giraffes_are = layer_of_squares (order Giraffes) is_giraffe setup board.giraffes giraffe_layer twelve are.giraffes_are;
}

-- the same of numbers that the code makes of the sets
pub masks_by : (setup : Setup) (board : Board) (own enemy chicks elephants giraffes : ℕ) → length setup.board ≡ 12 → IsBoardOf setup board
    → own ≡ board.own_lion → enemy ≡ board.enemy_lion → chicks ≡ board.chicks → elephants ≡ board.elephants → giraffes ≡ board.giraffes
    → AreMasks setup.board own enemy chicks elephants giraffes
masks_by setup board own enemy chicks elephants giraffes twelve are o e c l g =
    let found = masks_are setup board twelve are in
    record {
      own_is = o ∙ found.own_is;
      enemy_is = e ∙ found.enemy_is;
      chicks_are = c ∙ found.chicks_are;
      elephants_are = l ∙ found.elephants_are;
      giraffes_are = g ∙ found.giraffes_are;
    }

-- ---- the cells on the first and the second square of a layer are of it
first_layer : (t : ℕ) (cells : List Cell) → 0 < count t (map layer cells) → layer (get_or cells (first_square t (map layer cells)) None) ≡ t
first_layer t [] h = absurd (omega arith)
first_layer t (cell ∷ cells) h = grind (arith, count_other, (first_layer t cells))

second_layer : (t : ℕ) (cells : List Cell) → count t (map layer cells) ≡ 2 → layer (get_or cells (second_square t (map layer cells)) None) ≡ t
second_layer t [] h = absurd (omega arith)
second_layer t (cell ∷ cells) h = elim (cases_eq (layer cell) t) [
  | inl e ↦ (let more : suc (count t (map layer cells)) ≡ 2 = sym (ap (λ (x : ℕ). count t (x ∷ map layer cells)) e ∙ count_same t (map layer cells)) ∙ h in
      ap (λ (k : ℕ). layer (get_or (cell ∷ cells) k None)) (second_at e) ∙ first_layer t cells (omega (arith, more)))
  | inr n ↦ ap (λ (k : ℕ). layer (get_or (cell ∷ cells) k None)) (second_after n)
      ∙ second_layer t cells (sym (count_other t (layer cell) (map layer cells) n) ∙ h)
]
  where
    second_at : layer cell ≡ t → second_square t (layer cell ∷ map layer cells) ≡ suc (first_square t (map layer cells))
    second_at e = rw (eq-eqb (layer cell) t e) refl

    second_after : (layer cell ≡ t → ⊥) → second_square t (layer cell ∷ map layer cells) ≡ suc (second_square t (map layer cells))
    second_after n = rw (ne_eqb (layer cell) t n) refl

pub first_of_layer : (t : ℕ) (cells : List Cell) (mask : ℕ) → length cells ≡ 12 → mask ≡ layer_mask t (map layer cells) → 0 < count t (map layer cells)
    → layer (get_or cells (lowest mask) None) ≡ t
first_of_layer t cells mask long is some =
    ap (λ (k : ℕ). layer (get_or cells k None)) (first_found t cells mask long is some) ∙ first_layer t cells some

pub second_of_layer : (t : ℕ) (cells : List Cell) (mask less : ℕ) → length cells ≡ 12 → mask ≡ layer_mask t (map layer cells) → less ≡ mask - 1
    → count t (map layer cells) ≡ 2 → layer (get_or cells (lowest (bit_and mask less)) None) ≡ t
second_of_layer t cells mask less long is less_is two =
    ap (λ (k : ℕ). layer (get_or cells k None)) (second_found t cells mask less long is less_is two) ∙ second_layer t cells two

-- ---- the form of a cell of a known layer
chick_form : (cell : Cell) → layer cell ≡ order Chicks → 2 * one_if (is_enemy cell) + one_if (is_hen cell) ≡ form cell
chick_form = grind arith

pub chick_found : (setup : Setup) (board : Board) (square enemy hen : ℕ) → square < 12 → IsBoardOf setup board → layer (at setup square) ≡ order Chicks
    → enemy ≡ bit_at board.enemies square → hen ≡ bit_at board.hens square → 2 * enemy + hen ≡ form (at setup square)
chick_found setup board square enemy hen lt are is e h = grind (arith, chick_form)
