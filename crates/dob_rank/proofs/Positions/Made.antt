-- The setup made of digits that are below their bases: it is a position of the set, and has those digits.
use Rattle.dob_rank.proofs.Common.{◌+◌, ◌-◌, ◌<◌, ◌^◌, ◌∙◌, ◌∷◌, ◌≡◌, ◌≤◌, List, [], ap, arith, get_or, length, map, subst, suc, sym, ℕ, length-map}
use Rattle.dob_rank.proofs.Common.{HasLionOffFarRow, HasLions, holds_kind, holds_lion, total, HandKind, Enemy, Mover, PieceSet, Setup, HasDigits, base_of}
use Rattle.dob_rank.proofs.Common.{block_bases, board_of, choice, count, digits, empty_layers, enemy_squares, forms_number, free_squares, layer, numbers_by}
use Rattle.dob_rank.proofs.Common.{on_board, order, settle, setup_by, IsPositionOfSet, pieces_of, Chicks, Elephants, Empty, EnemyLion, Giraffes, OwnLion}
use Rattle.dob_rank.proofs.Common.{AreChoices, bases_by, layers_by, slice_index}
use Rattle.dob_pieces.specs.declared.kind.HandKind.TheVariants as hand
use Rattle.dob_rank.proofs.Boards.Settled.{hide, hide-hide, AreLayers, IsSettled, choice_hide_next, count_hide_next}
use Rattle.dob_rank.proofs.Boards.FormDigits.{layers-board_of, forms_number-board_of}
use Rattle.dob_rank.proofs.Boards.LayerCounts.{AreLayers-shown, lion_only, holds_mover_lion, holds_enemy_lion, holds_kind-layer, count-layer, layer-at, IsStage}
use Rattle.dob_rank.proofs.Boards.LayerCounts.{next_stage, first_stage}
use Rattle.dob_rank.proofs.Positions.Loops.{HasDigits-length, digit-at}
use Rattle.dob_rank.proofs.Positions.Blocks.{AreChoices-digits}

-- a layer's number of squares and its choice
record HasLayer (t p n : ℕ) (ls : List ℕ) : Type 0 where
  count_is : count t ls ≡ p
  choice_is : choice t ls ≡ n

-- what the layers settled by choices have
record AreChosen (ob ds ls : List ℕ) : Type 0 where
  squares : length ls ≡ 12
  layers : AreLayers ls
  own_lion : HasLayer (order OwnLion) 1 (slice_index ds 3) ls
  other_lion : HasLayer (order EnemyLion) 1 (slice_index ds 4) ls
  chicks : HasLayer (order Chicks) (slice_index ob 0) (slice_index ds 5) ls
  elephants : HasLayer (order Elephants) (slice_index ob 1) (slice_index ds 6) ls
  giraffes : HasLayer (order Giraffes) (slice_index ob 2) (slice_index ds 7) ls

-- later layers leave what a layer settled, and what was there before
earlier : (s t : ℕ) (ls rs qs : List ℕ) → s ≤ t → t ≤ order Empty → hide t ls ≡ rs → hide s rs ≡ qs → hide s ls ≡ qs
earlier s t ls rs qs h k e f = sym (hide-hide s t ls h k) ∙ ap (hide s) e ∙ f

of_layer : (t p n : ℕ) (ls rs qs : List ℕ) → t < order Empty → hide (suc t) ls ≡ rs → IsSettled t p n qs rs → HasLayer t p n ls
of_layer t p n ls rs qs h e s = grind (arith, count_hide_next, choice_hide_next)

from_stages : (ob ds r r0 r1 r2 r3 r4 : List ℕ) → IsSettled (order OwnLion) 1 (slice_index ds 3) r r0 → IsSettled (order EnemyLion) 1 (slice_index ds 4) r0 r1
    → IsSettled (order Chicks) (slice_index ob 0) (slice_index ds 5) r1 r2 → IsSettled (order Elephants) (slice_index ob 1) (slice_index ds 6) r2 r3
    → IsSettled (order Giraffes) (slice_index ob 2) (slice_index ds 7) r3 r4 → length r4 ≡ 12 → AreChosen ob ds r4
from_stages ob ds r r0 r1 r2 r3 r4 s0 s1 s2 s3 s4 len =
    let h3 = earlier (order Elephants) (order Giraffes) r4 r3 r2 (omega arith) (omega arith) s4.hide_is s3.hide_is in
    let h2 = earlier (order Chicks) (order Elephants) r4 r2 r1 (omega arith) (omega arith) h3 s2.hide_is in
    let h1 = earlier (order EnemyLion) (order Chicks) r4 r1 r0 (omega arith) (omega arith) h2 s1.hide_is in
    record {
      squares = len;
      layers = AreLayers-shown r4 s4.shown;
      own_lion = of_layer _ _ _ r4 r0 r (omega arith) h1 s0;
      other_lion = of_layer _ _ _ r4 r1 r0 (omega arith) h2 s1;
      chicks = of_layer _ _ _ r4 r2 r1 (omega arith) h3 s2;
      elephants = of_layer _ _ _ r4 r3 r2 (omega arith) s4.hide_is s3;
      giraffes = record { count_is = s4.count_is; choice_is = s4.number_is };
    }

chosen : (ob ds ls : List ℕ) → IsStage (order OwnLion) 12 ls → AreChoices ob ds
    → AreChosen ob ds (settle (order Giraffes) (slice_index ob 2) (slice_index ds 7) (settle (order Elephants) (slice_index ob 1) (slice_index ds 6)
    (settle (order Chicks) (slice_index ob 0) (slice_index ds 5)
    (settle (order EnemyLion) 1 (slice_index ds 4) (settle (order OwnLion) 1 (slice_index ds 3) ls)))))
chosen ob ds ls start c =
    let home : slice_index ds 3 < 12 = omega (arith, c.own_lion) in
    let one = next_stage (order OwnLion) 1 (slice_index ds 3) 12 ls (omega arith) home start in
    let two = next_stage (order EnemyLion) 1 (slice_index ds 4) enemy_squares _ (omega arith) c.other_lion one.stage in
    let three = next_stage (order Chicks) (slice_index ob 0) (slice_index ds 5) free_squares _ (omega arith) c.chick_squares two.stage in
    let four = next_stage (order Elephants) (slice_index ob 1) (slice_index ds 6) _ _ (omega arith) c.elephant_squares three.stage in
    let five = next_stage (order Giraffes) (slice_index ob 2) (slice_index ds 7) _ _ (omega arith) c.giraffe_squares four.stage in
    from_stages ob ds ls _ _ _ _ _ one.settled two.settled three.settled four.settled five.settled five.stage.long

-- ---- a setup with such layers
record IsMade (set : PieceSet) (ob ds : List ℕ) (s : Setup) : Type 0 where
  choices : AreChoices ob ds
  layers : AreChosen ob ds (map layer s.board)
  chicks : slice_index ob 0 + s.hands.mover.chicks + s.hands.enemy.chicks ≡ set.chicks
  elephants : slice_index ob 1 + s.hands.mover.elephants + s.hands.enemy.elephants ≡ set.elephants
  giraffes : slice_index ob 2 + s.hands.mover.giraffes + s.hands.enemy.giraffes ≡ set.giraffes

few_of : (set : PieceSet) (kind : HandKind) → pieces_of set kind ≤ 2
few_of set hand.Chick = set.few_chicks
few_of set hand.Elephant = set.few_elephants
few_of set hand.Giraffe = set.few_giraffes

made_lions : (set : PieceSet) (ob ds : List ℕ) (s : Setup) → IsMade set ob ds s → HasLions s
made_lions set ob ds s m Mover = count-layer (holds_lion Mover) (order OwnLion) holds_mover_lion s.board ∙ m.layers.own_lion.count_is
made_lions set ob ds s m Enemy = count-layer (holds_lion Enemy) (order EnemyLion) holds_enemy_lion s.board ∙ m.layers.other_lion.count_is

made_pieces : (set : PieceSet) (ob ds : List ℕ) (s : Setup) → IsMade set ob ds s → (kind : HandKind) → total kind s ≡ pieces_of set kind
unfolding total
made_pieces set ob ds s m hand.Chick =
    omega (arith, count-layer (holds_kind hand.Chick) (order Chicks) (holds_kind-layer hand.Chick) s.board, m.layers.chicks.count_is, m.chicks)
made_pieces set ob ds s m hand.Elephant =
    omega (arith, count-layer (holds_kind hand.Elephant) (order Elephants) (holds_kind-layer hand.Elephant) s.board, m.layers.elephants.count_is, m.elephants)
made_pieces set ob ds s m hand.Giraffe =
    omega (arith, count-layer (holds_kind hand.Giraffe) (order Giraffes) (holds_kind-layer hand.Giraffe) s.board, m.layers.giraffes.count_is, m.giraffes)

made_home : (set : PieceSet) (ob ds : List ℕ) (s : Setup) → IsMade set ob ds s → HasLionOffFarRow s
made_home set ob ds s m square le e =
    let only = lion_only (map layer s.board) square m.layers.own_lion.count_is (layer-at s.board square ∙ ap layer e) in
    omega (arith, only, m.layers.own_lion.choice_is, m.choices.own_lion, le)

position_made : (set : PieceSet) (ob ds : List ℕ) (s : Setup) → IsMade set ob ds s → IsPositionOfSet set s
position_made set ob ds s m = record {
  legal = record {
    squares = sym (length-map s.board layer) ∙ m.layers.squares;
    lions = made_lions set ob ds s m;
    few = λ kind. omega (arith, made_pieces set ob ds s m kind, few_of set kind);
    home = made_home set ob ds s m;
  };
  pieces = made_pieces set ob ds s m;
}

-- ---- the setup of digits
rejoined : (c i h : ℕ) → i < c + 1 → h < c - i + 1 → i + h + (c - i - h) ≡ c
rejoined c i h a b = omega arith

-- the forms number of a layer of the board made
made_forms : (numbers : ℕ → ℕ) (t n : ℕ) (ls : List ℕ) → t < order Empty → AreLayers ls → count t ls ≡ n
    → numbers t < base_of t ^ n → forms_number t (board_of numbers ls) ≡ numbers t
made_forms numbers t n ls h a c low = grind (arith, forms_number-board_of)

three_same : (a b c : ℕ) (xs : List ℕ) → length xs ≡ 3 → a ≡ slice_index xs 0 → b ≡ slice_index xs 1 → c ≡ slice_index xs 2 → a ∷ b ∷ c ∷ [] ≡ xs
three_same a b c (x ∷ y ∷ z ∷ []) long p q r = cc
three_same a b c xs long p q r = absurd (omega arith)

eleven_same : (a b c d e f g h : ℕ) (xs : List ℕ) → length xs ≡ 11 → a ≡ slice_index xs 3 → b ≡ slice_index xs 4 → c ≡ slice_index xs 5
    → d ≡ slice_index xs 6 → e ≡ slice_index xs 7 → f ≡ slice_index xs 8 → g ≡ slice_index xs 9 → h ≡ slice_index xs 10
    → slice_index xs 0 ∷ slice_index xs 1 ∷ slice_index xs 2 ∷ a ∷ b ∷ c ∷ d ∷ e ∷ f ∷ g ∷ h ∷ [] ≡ xs
eleven_same a b c d e f g h (x0 ∷ x1 ∷ x2 ∷ x3 ∷ x4 ∷ x5 ∷ x6 ∷ x7 ∷ x8 ∷ x9 ∷ x10 ∷ []) long p q r s t u v w = cc
eleven_same a b c d e f g h xs long p q r s t u v w = absurd (omega arith)

-- digits below their bases make a position that has them
pub record HasBoth (set : PieceSet) (ob ds : List ℕ) (s : Setup) : Type 0 where
  pub position : IsPositionOfSet set s
  pub on_board_is : on_board s ≡ ob
  pub digits_are : digits s ≡ ds

pub made : (set : PieceSet) (ob ds : List ℕ) → HasDigits (block_bases set) ob → HasDigits (bases_by set ob) ds → HasBoth set ob ds (setup_by set ob ds)
made set ob ds on has =
    let choices = AreChoices-digits set ob ds on has in
    let c = chosen ob ds empty_layers first_stage choices in
    let l : AreChosen ob ds (map layer (board_of (numbers_by ds) (layers_by ob ds))) =
    subst (AreChosen ob ds) (sym (layers-board_of (numbers_by ds) (layers_by ob ds) c.layers)) c in
    let digit : (k : ℕ) → k < 11 → get_or ds k 0 < get_or (bases_by set ob) k 0 = λ k low. digit-at (bases_by set ob) ds k has low in
    record {
      position = position_made set ob ds (setup_by set ob ds) (record {
        choices = choices;
        layers = l;
        chicks = rejoined set.chicks (slice_index ob 0) (slice_index ds 0) (digit-at (block_bases set) ob 0 on (omega arith)) (digit 0 (omega arith));
        elephants = rejoined set.elephants (slice_index ob 1) (slice_index ds 1) (digit-at (block_bases set) ob 1 on (omega arith)) (digit 1 (omega arith));
        giraffes = rejoined set.giraffes (slice_index ob 2) (slice_index ds 2) (digit-at (block_bases set) ob 2 on (omega arith)) (digit 2 (omega arith));
      });
      on_board_is = three_same _ _ _ ob (HasDigits-length (block_bases set) ob on) l.chicks.count_is l.elephants.count_is l.giraffes.count_is;
      digits_are = eleven_same _ _ _ _ _ _ _ _ ds (HasDigits-length (bases_by set ob) ds has) l.own_lion.choice_is l.other_lion.choice_is l.chicks.choice_is
          l.elephants.choice_is l.giraffes.choice_is
          (made_forms (numbers_by ds) 2 (slice_index ob 0) (layers_by ob ds) (omega arith) c.layers c.chicks.count_is (digit 8 (omega arith)))
          (made_forms (numbers_by ds) 3 (slice_index ob 1) (layers_by ob ds) (omega arith) c.layers c.elephants.count_is (digit 9 (omega arith)))
          (made_forms (numbers_by ds) 4 (slice_index ob 2) (layers_by ob ds) (omega arith) c.layers c.giraffes.count_is (digit 10 (omega arith)));
    }
