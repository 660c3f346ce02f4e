-- The digits of a position of a set: each is below its base, and they give the position back.
use Rattle.dob_rank.proofs.Common.{◌%◌, ◌+◌, ◌-◌, ◌<◌, ◌^◌, ◌∙◌, ◌∷◌, ◌≡◌, List, [], ap, arith, length, map, refl, replicate, subst, suc, sym, zero, ℕ}
use Rattle.dob_rank.proofs.Common.{mod-eq_of_lt, pow-succ', pow-zero, length-map, count_by, Cell, IsLegal, held, holds_kind, holds_lion, total, HandKind}
use Rattle.dob_rank.proofs.Common.{Enemy, Mover, PieceSet, Setup, HasDigits, base_of, bases_by, block_bases, board_of, choice, choose, count, count_from}
use Rattle.dob_rank.proofs.Common.{digits, empty_layers, enemy_squares, forms_number, free_squares, layer, layers_by, numbers_by, on_board, order, own_squares}
use Rattle.dob_rank.proofs.Common.{settle, setup_by, IsPositionOfSet, pieces_of, Chicks, Elephants, Empty, EnemyLion, Giraffes, OwnLion}
use Rattle.dob_pieces.specs.declared.kind.HandKind.TheVariants as hand
use Rattle.dob_rank.proofs.Boards.Choices.{choice-below}
use Rattle.dob_rank.proofs.Boards.Settled.{hide, hidden_lower, hidden_later, settle-choice, AreLayers}
use Rattle.dob_rank.proofs.Boards.FormDigits.{AreLayers-map, forms_number-below, board_of-back}
use Rattle.dob_rank.proofs.Boards.LayerCounts.{count_from-next, count_from-zero, lion_at, holds_mover_lion, holds_enemy_lion, holds_kind-layer, count-layer}
use Rattle.dob_rank.proofs.Boards.LayerCounts.{mover_lion, layer-at}
use Rattle.dob_rank.proofs.Positions.Blocks.{hand_bases}

-- what a position of the set says of its layers and hands
pub record HasParts (set : PieceSet) (s : Setup) : Type 0 where
  pub squares : length (map layer s.board) ≡ 12
  pub own_lion : count (order OwnLion) (map layer s.board) ≡ 1
  pub other_lion : count (order EnemyLion) (map layer s.board) ≡ 1
  pub home : choice (order OwnLion) (map layer s.board) < own_squares
  pub chicks : count (order Chicks) (map layer s.board) + s.hands.mover.chicks + s.hands.enemy.chicks ≡ set.chicks
  pub elephants : count (order Elephants) (map layer s.board) + s.hands.mover.elephants + s.hands.enemy.elephants ≡ set.elephants
  pub giraffes : count (order Giraffes) (map layer s.board) + s.hands.mover.giraffes + s.hands.enemy.giraffes ≡ set.giraffes

lion_home : (s : Setup) → IsLegal s → count (order OwnLion) (map layer s.board) ≡ 1 → choice (order OwnLion) (map layer s.board) < own_squares
lion_home s legal one = grind (arith, legal.home, mover_lion, layer-at, lion_at (map layer s.board) one)

of_kind : (kind : HandKind) (t : ℕ) (set : PieceSet) (s : Setup) → IsPositionOfSet set s
    → ((cells : List Cell) → count_by (holds_kind kind) cells ≡ count t (map layer cells))
    → count t (map layer s.board) + held s.hands.mover kind + held s.hands.enemy kind ≡ pieces_of set kind
unfolding total
of_kind kind t set s p h = ap (λ (n : ℕ). n + held s.hands.mover kind + held s.hands.enemy kind) (sym (h s.board)) ∙ p.pieces kind

pub HasParts-from_position : (set : PieceSet) (s : Setup) → IsPositionOfSet set s → HasParts set s
HasParts-from_position set s p =
    let one : count (order OwnLion) (map layer s.board) ≡ 1 = sym (count-layer (holds_lion Mover) (order OwnLion) holds_mover_lion s.board)
    ∙ p.legal.lions Mover in
    record {
      squares = length-map s.board layer ∙ p.legal.squares;
      own_lion = one;
      other_lion = sym (count-layer (holds_lion Enemy) (order EnemyLion) holds_enemy_lion s.board) ∙ p.legal.lions Enemy;
      home = lion_home s p.legal one;
      chicks = of_kind hand.Chick (order Chicks) set s p (count-layer (holds_kind hand.Chick) (order Chicks) (holds_kind-layer hand.Chick));
      elephants = of_kind hand.Elephant (order Elephants) set s p (count-layer (holds_kind hand.Elephant) (order Elephants) (holds_kind-layer hand.Elephant));
      giraffes = of_kind hand.Giraffe (order Giraffes) set s p (count-layer (holds_kind hand.Giraffe) (order Giraffes) (holds_kind-layer hand.Giraffe));
    }

-- how many squares each layer chooses from
pub record HasRoom (s : Setup) : Type 0 where
  pub one : count_from (order EnemyLion) (map layer s.board) ≡ enemy_squares
  pub two : count_from (order Chicks) (map layer s.board) ≡ free_squares
  pub three : count_from (order Elephants) (map layer s.board) ≡ free_squares - count (order Chicks) (map layer s.board)
  pub four : count_from (order Giraffes) (map layer s.board) ≡ free_squares - count (order Chicks) (map layer s.board) - count (order Elephants)
      (map layer s.board)

HasRoom-from_parts : (set : PieceSet) (s : Setup) → HasParts set s → HasRoom s
HasRoom-from_parts set s h = grind (arith, count_from-zero, count_from-next)

pub HasDigits-on_board : (set : PieceSet) (s : Setup) → HasParts set s → HasDigits (block_bases set) (on_board s)
HasDigits-on_board set s h = (omega (arith, h.chicks), (omega (arith, h.elephants), (omega (arith, h.giraffes), tt)))

HasDigits-hands : (set : PieceSet) (s : Setup) → HasParts set s
    → HasDigits (hand_bases set (on_board s)) (s.hands.mover.chicks ∷ s.hands.mover.elephants ∷ s.hands.mover.giraffes ∷ [])
HasDigits-hands set s h = (omega (arith, h.chicks), (omega (arith, h.elephants), (omega (arith, h.giraffes), tt)))

choice_below : (t m : ℕ) (ls : List ℕ) → count_from t ls ≡ m → choice t ls < choose m (count t ls)
choice_below t m ls e = subst (λ (x : ℕ). choice t ls < choose x (count t ls)) e (choice-below t ls)

pub HasDigits-digits : (set : PieceSet) (s : Setup) → HasParts set s → HasDigits (bases_by set (on_board s)) (digits s)
HasDigits-digits set s h =
    let r = HasRoom-from_parts set s h in
    let ls = map layer s.board in
    let enemy = rw h.other_lion at (choice_below (order EnemyLion) enemy_squares ls r.one) in
    let hands = HasDigits-hands set s h in (
      hands.0,
      (
        hands.1.0,
        (
          hands.1.1.0,
          (
            h.home,
            (
              enemy,
              (
                choice_below (order Chicks) _ ls r.two,
                (
                  choice_below (order Elephants) _ ls r.three,
                  (
                    choice_below (order Giraffes) _ ls r.four,
                    (forms_number-below (order Chicks) s.board, (forms_number-below (order Elephants) s.board, (forms_number-below (order Giraffes) s.board, tt))),
                  ),
                ),
              ),
            ),
          ),
        ),
      ),
    )

-- ---- back
pub hide_zero : (ls : List ℕ) → hide (order OwnLion) ls ≡ replicate (length ls) (order Empty)
hide_zero [] = refl
hide_zero (l ∷ ls) = grind (arith, hidden_later, (hide_zero ls))

pub hide_all : (ls : List ℕ) → AreLayers ls → hide (order Empty) ls ≡ ls
hide_all [] a = refl
hide_all (l ∷ ls) a = grind (arith, hidden_lower, hidden_later, (hide_all ls a.1))

back : (t p : ℕ) (ls : List ℕ) → t < order Empty → AreLayers ls → count t ls ≡ p → settle t p (choice t ls) (hide t ls) ≡ hide (suc t) ls
back t p ls h ok e = ap (λ (n : ℕ). settle t n (choice t ls) (hide t ls)) (sym e) ∙ settle-choice t ls h ok

pub lions_back : (ls : List ℕ) → length ls ≡ 12 → AreLayers ls → count (order OwnLion) ls ≡ 1 → count (order EnemyLion) ls ≡ 1
    → settle (order EnemyLion) 1 (choice (order EnemyLion) ls) (settle (order OwnLion) 1 (choice (order OwnLion) ls) empty_layers) ≡ hide (order Chicks) ls
lions_back ls long ok own enemy =
    ap (λ (xs : List ℕ). settle (order EnemyLion) 1 (choice (order EnemyLion) ls) (settle (order OwnLion) 1 (choice (order OwnLion) ls) xs))
    (sym (hide_zero ls ∙ ap (λ (n : ℕ). replicate n (order Empty)) long))
    ∙ ap (settle (order EnemyLion) 1 (choice (order EnemyLion) ls)) (back (order OwnLion) 1 ls (omega arith) ok own)
    ∙ back (order EnemyLion) 1 ls (omega arith) ok enemy

pub layers_by-back : (set : PieceSet) (s : Setup) → HasParts set s → layers_by (on_board s) (digits s) ≡ map layer s.board
layers_by-back set s h =
    let ok : AreLayers (map layer s.board) = AreLayers-map s.board in
    ap (λ (x : List ℕ). settle (order Giraffes) (count (order Giraffes) (map layer s.board)) (choice (order Giraffes) (map layer s.board))
    (settle (order Elephants) (count (order Elephants) (map layer s.board)) (choice (order Elephants) (map layer s.board))
    (settle (order Chicks) (count (order Chicks) (map layer s.board)) (choice (order Chicks) (map layer s.board)) x)))
    (lions_back (map layer s.board) h.squares ok h.own_lion h.other_lion)
    ∙ ap (λ (x : List ℕ). settle (order Giraffes) (count (order Giraffes) (map layer s.board)) (choice (order Giraffes) (map layer s.board))
    (settle (order Elephants) (count (order Elephants) (map layer s.board)) (choice (order Elephants) (map layer s.board)) x))
    (settle-choice (order Chicks) (map layer s.board) (omega arith) ok)
    ∙ ap (λ (x : List ℕ). settle (order Giraffes) (count (order Giraffes) (map layer s.board)) (choice (order Giraffes) (map layer s.board)) x)
    (settle-choice (order Elephants) (map layer s.board) (omega arith) ok)
    ∙ settle-choice (order Giraffes) (map layer s.board) (omega arith) ok
    ∙ hide_all (map layer s.board) ok

-- without forms a layer's forms number is 0
one_pow : (n : ℕ) → 1 ^ n ≡ 1
one_pow zero = pow-zero 1
one_pow (suc n) = pow-succ' 1 n ∙ (let rest : 1 ^ n ≡ 1 = one_pow n in omega arith)

no_forms : (t : ℕ) (cells : List Cell) → base_of t ≡ 1 → 0 % base_of t ^ count t (map layer cells) ≡ forms_number t cells
no_forms t cells h = grind (arith, forms_number-below, one_pow)

pub numbers-back : (s : Setup) (t : ℕ) → numbers_by (digits s) t % base_of t ^ count t (map layer s.board) ≡ forms_number t s.board
numbers-back s (suc (suc zero)) = mod-eq_of_lt (forms_number-below (order Chicks) s.board)
numbers-back s (suc (suc (suc zero))) = mod-eq_of_lt (forms_number-below (order Elephants) s.board)
numbers-back s (suc (suc (suc (suc zero)))) = mod-eq_of_lt (forms_number-below (order Giraffes) s.board)
numbers-back s (suc (suc (suc (suc (suc (suc t)))))) = no_forms (suc (suc (suc (suc (suc (suc t)))))) s.board refl
numbers-back s t = no_forms t s.board refl

-- a position is the setup of its numbers on the board and its digits
pub setup_by-back : (set : PieceSet) (s : Setup) → HasParts set s → setup_by set (on_board s) (digits s) ≡ s
setup_by-back set s h =
    let board : board_of (numbers_by (digits s)) (layers_by (on_board s) (digits s)) ≡ s.board
    = ap (board_of (numbers_by (digits s))) (layers_by-back set s h) ∙ board_of-back (numbers_by (digits s)) s.board (numbers-back s) in
    let chicks : set.chicks - count (order Chicks) (map layer s.board) - s.hands.mover.chicks ≡ s.hands.enemy.chicks = omega (arith, h.chicks) in
    let elephants : set.elephants - count (order Elephants) (map layer s.board) - s.hands.mover.elephants ≡ s.hands.enemy.elephants = omega (
      arith,
      h.elephants,
    ) in
    let giraffes : set.giraffes - count (order Giraffes) (map layer s.board) - s.hands.mover.giraffes ≡ s.hands.enemy.giraffes = omega (arith, h.giraffes) in
    λ i. record {
      board = board i;
      hands = record { mover = s.hands.mover; enemy = record { chicks = chicks i; elephants = elephants i; giraffes = giraffes i } };
    }
