-- What the lions' squares say of a position and its mirror image.
use Rattle.dob_rank.proofs.Common.{◌%◌, ◌&&◌, ◌*◌, ◌+◌, ◌/◌, ◌<◌, ◌∙◌, ◌∷◌, ◌≡◌, Bool, List, None, Some, [], ap, arith, cond, eqb, length, ltb, map, refl}
use Rattle.dob_rank.proofs.Common.{slice_index_or, subst, sym, true, ℕ, and_parts, eqb-true, ltb-true, range_with_len, all_below, all_below-at, Cell, board_by}
use Rattle.dob_rank.proofs.Common.{mirrored, piece_of, Lion, Enemy, Mover, PieceSet, Setup, choice, count, empty_layers, enemy_squares, layer, order}
use Rattle.dob_rank.proofs.Common.{own_squares, settle, IsPositionOfSet, enemy_square, lion_pairs, lions_of, run_kind, Chicks, Empty, EnemyLion, OwnLion}
use Rattle.dob_pieces.specs.Squares.{mirrored_square}
use Rattle.dob_rank.specs.declared.runs.RunKind.{RunKind}
use Rattle.dob_rank.specs.declared.runs.RunKind.TheVariants.{First, Later, Mixed}
use Rattle.dob_rank.proofs.Boards.Settled.{hide, AreLayers, hide-hide, choice_hide_next}
use Rattle.dob_rank.proofs.Boards.FormDigits.{AreLayers-map}
use Rattle.dob_rank.proofs.Positions.Digits.{HasParts-from_position, HasDigits-digits, lions_back}

-- ---- layers of the mirror image
abbrev pub mirror_layers : List ℕ → List ℕ
mirror_layers ls = map (λ k. slice_index_or ls (mirrored_square k) (order Empty)) (range_with_len 0 12)

layers-of_mirrored : (board : List Cell) → length board ≡ 12 →
    map layer (board_by (λ k. slice_index_or board (mirrored_square k) None)) ≡ mirror_layers (map layer board)
layers-of_mirrored (a ∷ b ∷ c ∷ d ∷ e ∷ i ∷ j ∷ k ∷ l ∷ m ∷ n ∷ o ∷ []) eq = refl
layers-of_mirrored board eq = absurd (omega arith)

pub layers-mirrored : (s : Setup) → length s.board ≡ 12 → map layer (mirrored s).board ≡ mirror_layers (map layer s.board)
unfolding mirrored
layers-mirrored s eq = layers-of_mirrored s.board eq

pub hide-mirror : (t : ℕ) (ls : List ℕ) → length ls ≡ 12 → hide t (mirror_layers ls) ≡ mirror_layers (hide t ls)
hide-mirror t (a ∷ b ∷ c ∷ d ∷ e ∷ i ∷ j ∷ k ∷ l ∷ m ∷ n ∷ o ∷ []) eq = refl
hide-mirror t ls eq = absurd (omega arith)

-- ---- the lions' squares alone

-- the layers of a board with two lions whose squares have that number
abbrev pub lions_layers : ℕ → List ℕ
lions_layers lions = settle (order EnemyLion) 1 (lions % enemy_squares) (settle (order OwnLion) 1 (lions / enemy_squares) empty_layers)

abbrev pub lions_in : List ℕ → ℕ
lions_in ls = choice (order OwnLion) ls * enemy_squares + choice (order EnemyLion) ls

-- the number of the mirrored lions
abbrev pub image_lions : ℕ → ℕ
image_lions lions = lions_in (mirror_layers (lions_layers lions))

lions_in-hide : (ls : List ℕ) → lions_in (hide (order Chicks) ls) ≡ lions_in ls
lions_in-hide ls =
    rw (
      ← choice_hide_next (order OwnLion) (hide (order Chicks) ls) (omega arith),
      hide-hide (order EnemyLion) (order Chicks) ls (omega arith) (omega arith),
      choice_hide_next (order OwnLion) ls (omega arith),
      choice_hide_next (order EnemyLion) ls (omega arith),
    ) refl

-- a list of layers that has both lions, on the squares of their number
pub record HasPair (ls : List ℕ) : Type 0 where
  squares : length ls ≡ 12
  layers : AreLayers ls
  own_lion : count (order OwnLion) ls ≡ 1
  enemy_lion : count (order EnemyLion) ls ≡ 1
  below : choice (order EnemyLion) ls < enemy_squares

pub lions_layers-of : (ls : List ℕ) → HasPair ls → lions_layers (lions_in ls) ≡ hide (order Chicks) ls
lions_layers-of ls h =
    let below : choice (order EnemyLion) ls < enemy_squares = h.below in
    let own : lions_in ls / enemy_squares ≡ choice (order OwnLion) ls = omega arith in
    let enemy : lions_in ls % enemy_squares ≡ choice (order EnemyLion) ls = omega arith in
    ap (λ n. settle (order EnemyLion) 1 (lions_in ls % enemy_squares) (settle (order OwnLion) 1 n empty_layers)) own
    ∙ ap (λ n. settle (order EnemyLion) 1 n (settle (order OwnLion) 1 (choice (order OwnLion) ls) empty_layers)) enemy
    ∙ lions_back ls h.squares h.layers h.own_lion h.enemy_lion

-- the number of its mirrored lions
image-of_pair : (ls : List ℕ) → HasPair ls → lions_in (mirror_layers ls) ≡ image_lions (lions_in ls)
image-of_pair ls h =
    sym (lions_in-hide (mirror_layers ls))
    ∙ ap lions_in (hide-mirror (order Chicks) ls h.squares)
    ∙ ap (λ xs. lions_in (mirror_layers xs)) (sym (lions_layers-of ls h))

-- so has each position
pub HasPair-from_position : (set : PieceSet) (s : Setup) → IsPositionOfSet set s → HasPair (map layer s.board)
HasPair-from_position set s p =
    let h = HasParts-from_position set s p in
    record {
      squares = h.squares;
      layers = AreLayers-map s.board;
      own_lion = h.own_lion;
      enemy_lion = h.other_lion;
      below =
          (HasDigits-digits set s h).1.1.1.1.0;
    }

pub lions_of-mirrored : (set : PieceSet) (s : Setup) → IsPositionOfSet set s → lions_of (mirrored s) ≡ image_lions (lions_of s)
lions_of-mirrored set s p = ap lions_in (layers-mirrored s p.legal.squares) ∙ image-of_pair (map layer s.board) (HasPair-from_position set s p)

pub lions_of-below : (set : PieceSet) (s : Setup) → IsPositionOfSet set s → lions_of s < lion_pairs
lions_of-below set s p = (let h = HasParts-from_position set s p in let below = (HasDigits-digits set s h).1.1.1.1.0 in omega (arith, below, h.home))

-- ---- what their columns say

-- the kind of run says how the number of the lions compares with that of the mirrored ones
abbrev tells : RunKind → ℕ → ℕ → Bool
tells First lions image = ltb lions image
tells Later lions image = ltb image lions
tells Mixed lions image = eqb lions image

-- the cells of a board with the lions alone, on these squares
abbrev pub pair_cell : ℕ → ℕ → ℕ → Cell
pair_cell own enemy k = cond (eqb k own) (Some (piece_of Mover Lion)) (cond (eqb k enemy) (Some (piece_of Enemy Lion)) None)

-- their layers, by the lions' numbers; no list is settled here, since `settle` computes both of its ways at each square
abbrev pub pair_layers : ℕ → ℕ → List ℕ
pair_layers own enemy = map layer (board_by (pair_cell own (enemy_square own enemy)))

abbrev has_pair : ℕ → ℕ → List ℕ → Bool
has_pair own enemy ls =
    (eqb (count (order OwnLion) ls) 1 && eqb (count (order EnemyLion) ls) 1)
    && (eqb (choice (order OwnLion) ls) own && eqb (choice (order EnemyLion) ls) enemy)

abbrev has_its_pair : ℕ → ℕ → Bool
has_its_pair own enemy = has_pair own enemy (pair_layers own enemy)

all_have : all_below (λ own. all_below (has_its_pair own) enemy_squares) own_squares ≡ true
all_have = refl

-- the layers have both lions, with those numbers
record IsPair (own enemy : ℕ) : Type 0 where
  has : HasPair (pair_layers own enemy)
  number_is : lions_in (pair_layers own enemy) ≡ own * enemy_squares + enemy

is_pair : (own enemy : ℕ) → own < own_squares → enemy < enemy_squares → IsPair own enemy
is_pair own enemy first second =
    let ls = pair_layers own enemy in
    let here = all_below-at (has_its_pair own) enemy_squares enemy
    (all_below-at (λ n. all_below (has_its_pair n) enemy_squares) own_squares own all_have first) second in
    let sides = and_parts _ _ here in
    let counts = and_parts _ _ sides.0 in
    let choices = and_parts _ _ sides.1 in
    let own_is = eqb-true (choice (order OwnLion) ls) own choices.0 in
    let enemy_is = eqb-true (choice (order EnemyLion) ls) enemy choices.1 in
    record {
      has = record {
        squares = refl;
        layers = AreLayers-map (board_by (pair_cell own (enemy_square own enemy)));
        own_lion = eqb-true _ _ counts.0;
        enemy_lion = eqb-true _ _ counts.1;
        below = omega (arith, enemy_is, second);
      };
      number_is = omega (arith, own_is, enemy_is);
    }

-- the lions of a number, as they are settled
pub lions_layers-pair : (own enemy : ℕ) → own < own_squares → enemy < enemy_squares
    → lions_layers (own * enemy_squares + enemy) ≡ hide (order Chicks) (pair_layers own enemy)
lions_layers-pair own enemy first second =
    let pair = is_pair own enemy first second in
    ap lions_layers (sym pair.number_is) ∙ lions_layers-of (pair_layers own enemy) pair.has

abbrev told : ℕ → ℕ → Bool
told own enemy = tells (run_kind (own * enemy_squares + enemy)) (own * enemy_squares + enemy) (lions_in (mirror_layers (pair_layers own enemy)))

all_told : all_below (λ own. all_below (told own) enemy_squares) own_squares ≡ true
all_told = refl

-- so it does with the mover's lion on one square and the enemy's on another one
tells_pair : (own enemy : ℕ) → own < own_squares → enemy < enemy_squares
    → tells (run_kind (own * enemy_squares + enemy)) (own * enemy_squares + enemy) (image_lions (own * enemy_squares + enemy)) ≡ true
tells_pair own enemy first second =
    let lions = own * enemy_squares + enemy in
    let row : all_below (told own) enemy_squares ≡ true
    = all_below-at (λ n. all_below (told n) enemy_squares) own_squares own all_told first in
    let here : told own enemy ≡ true = all_below-at (told own) enemy_squares enemy row second in
    let pair = is_pair own enemy first second in
    subst (λ n. tells (run_kind lions) lions n ≡ true) (image-of_pair (pair_layers own enemy) pair.has ∙ ap image_lions pair.number_is) here

tells_at : (lions : ℕ) (kind : RunKind) → lions < lion_pairs → run_kind lions ≡ kind → tells kind lions (image_lions lions) ≡ true
tells_at lions kind below is =
    let whole : lions / enemy_squares * enemy_squares + lions % enemy_squares ≡ lions = omega arith in
    rw (← is) (rw whole at (tells_pair (lions / enemy_squares) (lions % enemy_squares) (omega arith) (omega arith)))

pub first_lions : (lions : ℕ) → lions < lion_pairs → run_kind lions ≡ First → lions < image_lions lions
first_lions lions below is = ltb-true lions (image_lions lions) (tells_at lions First below is)

pub later_lions : (lions : ℕ) → lions < lion_pairs → run_kind lions ≡ Later → image_lions lions < lions
later_lions lions below is = ltb-true (image_lions lions) lions (tells_at lions Later below is)

pub mixed_lions : (lions : ℕ) → lions < lion_pairs → run_kind lions ≡ Mixed → lions ≡ image_lions lions
mixed_lions lions below is = eqb-true lions (image_lions lions) (tells_at lions Mixed below is)
