-- Layers and what a board's tests count, and the layers settled up to one of them.
use Rattle.dob_rank.proofs.Common.{◌+◌, ◌<◌, ◌∙◌, ◌∷◌, ◌≡◌, ◌≤◌, Bool, List, None, Some, [], ap, arith, eqb, get_or, length, map, refl, suc, sym, zero, ℕ}
use Rattle.dob_rank.proofs.Common.{count_by, Cell, holds_kind, holds_lion, piece_of, HandKind, Lion, Enemy, Mover, choice, count, count_from, layer, order}
use Rattle.dob_rank.proofs.Common.{settle, squares_from, Chicks, Elephants, Empty, EnemyLion, Giraffes, OwnLion, nat_tests, choose, empty_layers, enemy_squares}
use Rattle.dob_rank.proofs.Common.{free_squares, inr, replicate, ◌-◌}
use Rattle.std.proofs.lemmas.List.Recursion.{is_count_by}
use Rattle.dob_pieces.specs.declared.kind.HandKind.TheVariants as hand
use Rattle.dob_rank.proofs.Boards.EachCell.{of_cell}
use Rattle.dob_rank.proofs.Boards.Choices.{count_from_later, layer_squares, count_at}
use Rattle.dob_rank.proofs.Boards.Settled.{AreShown, AreLayers, IsSettled, settle-settles}

-- ---- counts of one layer and of all from a layer on
pub count_from-next : (t : ℕ) (ls : List ℕ) → count_from (suc t) ls + count t ls ≡ count_from t ls
count_from-next t [] = omega arith
count_from-next t (l ∷ ls) = grind (arith, nat_tests, count_from-next t ls)

pub count_from-zero : (ls : List ℕ) → count_from (order OwnLion) ls ≡ length ls
count_from-zero [] = refl
count_from-zero (l ∷ ls) = count_from_later 0 l ls (omega arith) ∙ ap suc (count_from-zero ls)

-- where only layers below t and empty squares are, those from t on are the empty ones
pub count_five : (t : ℕ) (ls : List ℕ) → t ≤ order Empty → AreShown t ls → count (order Empty) ls ≡ count_from t ls
count_five t [] h a = refl
count_five t (l ∷ ls) h a = grind (arith, nat_tests, count_five t ls h a.1)

pub AreLayers-shown : (ls : List ℕ) → AreShown (order Empty) ls → AreLayers ls
AreLayers-shown [] a = tt
AreLayers-shown (l ∷ ls) a = grind (arith, AreLayers-shown ls a.1)

pub length-settle : (t pieces number : ℕ) (ls : List ℕ) → length (settle t pieces number ls) ≡ length ls
length-settle t pieces number [] = refl
length-settle t pieces number (l ∷ ls) = grind (arith, nat_tests, λ (p n : ℕ). length-settle t p n ls)

-- ---- a layer of one cell
pub choice_none : (t : ℕ) (ls : List ℕ) → count t ls ≡ 0 → choice t ls ≡ 0
choice_none t [] h = refl
choice_none t (l ∷ ls) h = grind (arith, nat_tests, choice_none t ls)

pub count_positive : (t : ℕ) (ls : List ℕ) (k : ℕ) → t < order Empty → get_or ls k (order Empty) ≡ t → 0 < count t ls
count_positive t [] k h e = absurd (let five : order Empty ≡ t = e in omega arith)
count_positive t (l ∷ ls) zero h e = (let one = count_at t l ls e in omega arith)
count_positive t (l ∷ ls) (suc k) h e = (let rest : 0 < count t ls = count_positive t ls k h e in omega arith)

-- the choice of one square is that square, where no layer is earlier
pub lion_at : (ls : List ℕ) → count (order OwnLion) ls ≡ 1 → get_or ls (choice (order OwnLion) ls) (order Empty) ≡ order OwnLion
lion_at [] h = absurd (omega arith)
lion_at (l ∷ ls) h = grind (arith, nat_tests, choice_none (order OwnLion) ls, lion_at ls)

first_only : (ls : List ℕ) (k : ℕ) → count (order OwnLion) ls ≡ 0 → get_or (zero ∷ ls) k (order Empty) ≡ order OwnLion → k ≡ 0
first_only ls zero none e = refl
first_only ls (suc k) none e = absurd (let some : 0 < count (order OwnLion) ls = count_positive 0 ls k (omega arith) e in omega arith)

pub lion_only : (ls : List ℕ) (k : ℕ) → count (order OwnLion) ls ≡ 1 → get_or ls k (order Empty) ≡ order OwnLion → k ≡ choice (order OwnLion) ls
lion_only [] k h e = absurd (omega arith)
lion_only (zero ∷ ls) k h e = grind (arith, nat_tests, choice_none (order OwnLion) ls, first_only ls k)
lion_only (suc l ∷ ls) zero h e = grind arith
lion_only (suc l ∷ ls) (suc k) h e = grind (arith, nat_tests, lion_only ls k)

-- ---- layers and the tests of the key
pub holds_mover_lion : (cell : Cell) → holds_lion Mover cell ≡ eqb (layer cell) (order OwnLion)
holds_mover_lion = of_cell _ refl (refl, refl, refl, refl, refl) (refl, refl, refl, refl, refl)

pub holds_enemy_lion : (cell : Cell) → holds_lion Enemy cell ≡ eqb (layer cell) (order EnemyLion)
holds_enemy_lion = of_cell (λ cell. holds_lion Enemy cell ≡ eqb (layer cell) (order EnemyLion)) refl
    (refl, refl, refl, refl, refl) (refl, refl, refl, refl, refl)

-- the layer of a kind of piece that can lie in a hand
abbrev pub layer_of_kind : HandKind → ℕ
layer_of_kind hand.Chick = order Chicks
layer_of_kind hand.Elephant = order Elephants
layer_of_kind hand.Giraffe = order Giraffes

pub holds_kind-layer : (kind : HandKind) (cell : Cell) → holds_kind kind cell ≡ eqb (layer cell) (layer_of_kind kind)
holds_kind-layer hand.Chick = of_cell (λ cell. holds_kind hand.Chick cell ≡ eqb (layer cell) (order Chicks)) refl
    (refl, refl, refl, refl, refl) (refl, refl, refl, refl, refl)
holds_kind-layer hand.Elephant = of_cell (λ cell. holds_kind hand.Elephant cell ≡ eqb (layer cell) (order Elephants)) refl
    (refl, refl, refl, refl, refl) (refl, refl, refl, refl, refl)
holds_kind-layer hand.Giraffe = of_cell (λ cell. holds_kind hand.Giraffe cell ≡ eqb (layer cell) (order Giraffes)) refl
    (refl, refl, refl, refl, refl) (refl, refl, refl, refl, refl)

-- what passes a test that picks a layer is as many as the layer has, on the squares of the layer
pub count-layer : (test : Cell → Bool) (t : ℕ) → ((cell : Cell) → test cell ≡ eqb (layer cell) t)
    → (cells : List Cell) → count_by test cells ≡ count t (map layer cells)
count-layer test t h cells = sym (is_count_by (λ (xs : List Cell). count t (map layer xs)) test refl (λ x xs. rw (h x) (grind (arith, nat_tests))) cells)

pub squares-layer : (test : Cell → Bool) (t : ℕ) → ((cell : Cell) → test cell ≡ eqb (layer cell) t) → (from : ℕ) (cells : List Cell)
    → squares_from from test cells ≡ layer_squares t from (map layer cells)
squares-layer test t h from [] = refl
squares-layer test t h from (cell ∷ cells) = rw (h cell, squares-layer test t h (suc from) cells)

-- a cell of the first layer is the mover's lion
pub mover_lion : (cell : Cell) → layer cell ≡ order OwnLion → cell ≡ Some (piece_of Mover Lion)
mover_lion = of_cell (λ cell. layer cell ≡ order OwnLion → cell ≡ Some (piece_of Mover Lion)) (grind arith) (grind arith) (grind arith)

-- the layer on a square
pub layer-at : (cells : List Cell) (k : ℕ) → get_or (map layer cells) k (order Empty) ≡ layer (get_or cells k None)
layer-at [] k = refl
layer-at (cell ∷ cells) zero = refl
layer-at (cell ∷ cells) (suc k) = layer-at cells k

-- ---- layers settled up to one of them

-- twelve squares with layers below t, and so many empty ones
pub record IsStage (t m : ℕ) (ls : List ℕ) : Type 0 where
  pub long : length ls ≡ 12
  pub shown : AreShown t ls
  pub empty_is : count (order Empty) ls ≡ m

-- a layer that isn't there yet has no square
pub none_shown : (t : ℕ) (ls : List ℕ) → t < order Empty → AreShown t ls → count t ls ≡ 0
none_shown t [] h a = refl
none_shown t (l ∷ ls) h a = grind (arith, nat_tests, none_shown t ls h a.1)

-- the next layer settled by a choice
pub record IsNext (t p n m : ℕ) (ls : List ℕ) : Type 0 where
  pub settled : IsSettled t p n ls (settle t p n ls)
  pub stage : IsStage (suc t) (m - p) (settle t p n ls)

pub next_stage : (t p n m : ℕ) (ls : List ℕ) → t < order Empty → n < choose m p → IsStage t m ls → IsNext t p n m ls
next_stage t p n m ls h low s =
    let settled = settle-settles t p n ls h s.shown (rw s.empty_is low) in
    grind (arith, settled, length-settle t p n ls, count_five (suc t) (settle t p n ls), count_from-next t (settle t p n ls))

-- the empty board, and one with two lions
pub first_stage : IsStage (order OwnLion) 12 empty_layers
first_stage = record { long = refl; shown = all_empty 12; empty_is = refl }
  where
    all_empty : (n : ℕ) → AreShown (order OwnLion) (replicate n (order Empty))
    all_empty zero = tt
    all_empty (suc n) = (inr refl, all_empty n)

pub lions_stage : (own enemy : ℕ) (ls : List ℕ) → own < 12 → enemy < enemy_squares → IsStage (order OwnLion) 12 ls →
    IsStage (order Chicks) free_squares (settle (order EnemyLion) 1 enemy (settle (order OwnLion) 1 own ls))
lions_stage own enemy ls low below s =
    (next_stage (order EnemyLion) 1 enemy enemy_squares _ (omega arith) below (next_stage (order OwnLion) 1 own 12 ls (omega arith) low s).stage).stage
