-- Pieces placed one after another on the squares that are left make the board of the settled layers.
use Rattle.dob_rank.proofs.Common.{◌%◌, ◌*◌, ◌-◌, ◌/◌, ◌<◌, ◌^◌, ◌∙◌, ◌∷◌, ◌≡◌, ◌≢◌, ◌≤◌, List, None, [], ap, arith, refl, replicate, set, slice_index}
use Rattle.dob_rank.proofs.Common.{slice_index_or, subst, suc, sym, zero, ℕ, pow-succ', pow-zero, Cell, base_of, board_of, cell_of, choose, count, empty_layers}
use Rattle.dob_rank.proofs.Common.{enemy_squares, free_squares, layers_by, numbers_by, order, own_squares, settle, AreChoices, AreFree, first_place, higher_of}
use Rattle.dob_rank.proofs.Common.{lower_of, past, put, second_place, Chicks, Elephants, Empty, EnemyLion, Giraffes, OwnLion, nat_tests}
use Rattle.dob_rank.proofs.Boards.Choices.{count_other}
use Rattle.dob_rank.proofs.Boards.EmptySquares.{empty_place, empty_place-below, empty_place-set, past-low, past-upto, settle_none, settle_one, settle_two}
use Rattle.dob_rank.proofs.Boards.EmptySquares.{choose_one}
use Rattle.dob_rank.proofs.Boards.LayerCounts.{IsStage, none_shown, next_stage, first_stage}

-- ---- a board with one more piece

-- the square is empty, and no square of the layer stands before it
abbrev IsOpen : ℕ → ℕ → List ℕ → Type 0
IsOpen s t [] = ⊥
IsOpen zero t (l ∷ ls) = l ≡ order Empty
IsOpen (suc s) t (l ∷ ls) = (l ≡ t → ⊥) × IsOpen s t ls

count-set_other : (l t s : ℕ) (ls : List ℕ) → (l ≡ order Empty → ⊥) → (l ≡ t → ⊥) → IsOpen s t ls → count l (set ls s t) ≡ count l ls
count-set_other l t s [] h k o = absurd o
count-set_other l t zero (m ∷ ls) h k o = grind (arith, nat_tests, o)
count-set_other l t (suc s) (m ∷ ls) h k o = grind (arith, nat_tests, count-set_other l t s ls h k o.1)

count-set_same : (t s : ℕ) (ls : List ℕ) → (t ≡ order Empty → ⊥) → IsOpen s t ls → count t (set ls s t) ≡ suc (count t ls)
count-set_same t s [] h o = absurd o
count-set_same t zero (l ∷ ls) h o = grind (arith, nat_tests, o)
count-set_same t (suc s) (l ∷ ls) h o = grind (arith, nat_tests, count-set_same t s ls h o.1, o.0)

-- the form that the number gives to a further piece of the layer
abbrev next_cell : (ℕ → ℕ) → ℕ → List ℕ → Cell
next_cell numbers t ls = cell_of t (numbers t / base_of t ^ count t ls % base_of t)

board_of-set : (numbers : ℕ → ℕ) (t s : ℕ) (ls : List ℕ) → (t ≡ order Empty → ⊥) → IsOpen s t ls
    → board_of numbers (set ls s t) ≡ set (board_of numbers ls) s (next_cell numbers t ls)
board_of-set numbers t s [] h o = absurd o
board_of-set numbers t zero (l ∷ ls) h o = grind (arith, count_other)
board_of-set numbers t (suc s) (l ∷ ls) h o = grind (arith, count_other, count-set_other, (board_of-set numbers t s ls h o.1))

-- ---- the squares that choices take are open
open_one : (t n : ℕ) (ls : List ℕ) → (order Empty ≡ t → ⊥) → count t ls ≡ 0 → n < count (order Empty) ls → IsOpen (empty_place ls n) t ls
open_one t n [] h z k = absurd (omega arith)
open_one t zero (l ∷ ls) h z k = grind (arith, nat_tests, open_one t 0 ls h)
open_one t (suc n) (l ∷ ls) h z k = grind (arith, nat_tests, open_one t (suc n) ls h, open_one t n ls h)

open_two : (t a b : ℕ) (ls : List ℕ) → (order Empty ≡ t → ⊥) → count t ls ≡ 0 → a < b → b < count (order Empty) ls
    → IsOpen (empty_place ls a) t (set ls (empty_place ls b) t)
open_two t a b [] h z k low = absurd (omega arith)
open_two t a zero (l ∷ ls) h z k low = absurd (omega arith)
open_two t zero (suc b) (l ∷ ls) h z k low = grind (arith, nat_tests, open_two t 0 (suc b) ls h)
open_two t (suc a) (suc b) (l ∷ ls) h z k low = grind (arith, nat_tests, open_two t (suc a) (suc b) ls h, open_two t a b ls h)

-- the two places of a choice
pub record IsChoice (m a b : ℕ) : Type 0 where
  pub rising : a < b
  pub below : b < m

pub choice_of : (m n : ℕ) → n < choose m 2 → IsChoice m (lower_of m n) (higher_of m n)
choice_of zero n h = absurd (omega arith)
choice_of (suc m) n h = grind (arith, nat_tests, choice_of m (n - m), choose_one m)

-- ---- one layer after another

-- the board of the layers that were settled so far, and where the squares that are left stand
pub record Stand (numbers : ℕ → ℕ) (t m : ℕ) (ls : List ℕ) (cells : List Cell) (f : ℕ → ℕ) : Type 0 where
  pub board_is : cells ≡ board_of numbers ls
  pub stage : IsStage t m ls
  pub place_is : (n : ℕ) → n < m → empty_place ls n ≡ f n

without : (n : ℕ) → n / 1 ≡ n
without n = omega arith

first_form : (numbers : ℕ → ℕ) (t : ℕ) (ls : List ℕ) → count t ls ≡ 0 → next_cell numbers t ls ≡ cell_of t (numbers t % base_of t)
first_form numbers t ls z = simp (z, pow-zero (base_of t), without (numbers t))

second_form : (numbers : ℕ → ℕ) (t : ℕ) (ls : List ℕ) → count t ls ≡ 1 → next_cell numbers t ls ≡ cell_of t (numbers t / base_of t % base_of t)
second_form numbers t ls o = rw (o, pow-succ' (base_of t) 0, pow-zero (base_of t)) (rw (let e : base_of t * 1 ≡ base_of t = omega arith in e) refl)

-- one piece
pub stage_one : (numbers : ℕ → ℕ) (t n m : ℕ) (ls : List ℕ) (cells : List Cell) (f : ℕ → ℕ) → t < order Empty → n < m → Stand numbers t m ls cells f →
    Stand numbers (suc t) (m - 1) (settle t 1 n ls) (set cells (f n) (cell_of t (numbers t % base_of t))) (λ k. f (past n k))
stage_one numbers t n m ls cells f h low s =
    let same : count (order Empty) ls ≡ m = s.stage.empty_is in
    let none = none_shown t ls h s.stage.shown in
    let is = settle_one t n ls (omega arith) in
    record {
      board_is = rw (
        s.board_is,
        ← s.place_is n low,
        is,
        board_of-set numbers t (empty_place ls n) ls (omega arith) (open_one t n ls (omega arith) none (omega arith)),
        first_form numbers t ls none,
      );
      stage = (next_stage t 1 n m ls h (omega (arith, choose_one m)) s.stage).stage;
      place_is = λ k less. (let upto = past-upto n k in rw (is, empty_place-set t n k ls (omega arith)) (s.place_is (past n k) (omega arith)));
    }

-- two pieces
stage_two : (numbers : ℕ → ℕ) (t n m : ℕ) (ls : List ℕ) (cells : List Cell) (f : ℕ → ℕ) → t < order Empty → n < choose m 2 → Stand numbers t m ls cells f →
    Stand numbers (suc t) (m - 2) (settle t 2 n ls)
    (set (set cells (f (higher_of m n)) (cell_of t (numbers t % base_of t))) (f (lower_of m n)) (cell_of t (numbers t / base_of t % base_of t)))
    (λ k. f (past (higher_of m n) (past (lower_of m n) k)))
stage_two numbers t n m ls cells f h low s =
    let same : count (order Empty) ls ≡ m = s.stage.empty_is in
    let choice = choice_of m n low in
    let rising : lower_of m n < higher_of m n = choice.rising in
    let below : higher_of m n < m = choice.below in
    let is = rw same at (settle_two t n ls (rw same low)) in
    let none = none_shown t ls h s.stage.shown in
    let first = open_one t (higher_of m n) ls (omega arith) none (omega arith) in
    let one = count-set_same t (empty_place ls (higher_of m n)) ls (omega arith) first ∙ ap suc none in
    let lower = past-low (higher_of m n) (lower_of m n) rising in
    record {
      board_is = rw (
        s.board_is,
        ← s.place_is (higher_of m n) below,
        ← s.place_is (lower_of m n) (omega arith),
        is,
        board_of-set numbers t (empty_place ls (lower_of m n)) (set ls (empty_place ls (higher_of m n)) t) (omega arith)
            (open_two t (lower_of m n) (higher_of m n) ls (omega arith) none rising (omega arith)),
        board_of-set numbers t (empty_place ls (higher_of m n)) ls (omega arith) first,
        second_form numbers t (set ls (empty_place ls (higher_of m n)) t) one,
        first_form numbers t ls none,
      );
      stage = (next_stage t 2 n m ls h low s.stage).stage;
      place_is = λ k less. (let upto = past-upto (lower_of m n) k in
          let over = past-upto (higher_of m n) (past (lower_of m n) k) in
          let second = empty_place-set t (higher_of m n) (lower_of m n) ls (omega arith) in
          ap (λ (xs : List ℕ). empty_place xs k) is
          ∙ ap (λ (x : ℕ). empty_place (set (set ls (empty_place ls (higher_of m n)) t) x t) k) (ap (empty_place ls) (sym lower) ∙ sym second)
          ∙ empty_place-set t (lower_of m n) k (set ls (empty_place ls (higher_of m n)) t) (omega arith)
          ∙ empty_place-set t (higher_of m n) (past (lower_of m n) k) ls (omega arith)
          ∙ s.place_is (past (higher_of m n) (past (lower_of m n) k)) (omega arith));
    }

-- any number of pieces up to two
pub stage : (numbers : ℕ → ℕ) (t p n m : ℕ) (ls : List ℕ) (cells : List Cell) (f : ℕ → ℕ) → t < order Empty
    → p ≤ 2 → m ≤ 12 → n < choose m p → Stand numbers t m ls cells f →
    Stand numbers (suc t) (m - p) (settle t p n ls) (put t p (f (first_place m p n)) (f (second_place m p n)) (numbers t) cells)
    (λ k. f (past (second_place m p n) (past (first_place m p n) k)))
stage numbers t zero n m ls cells f h few upto low s = record {
  board_is = s.board_is ∙ ap (board_of numbers) (sym (settle_none t n ls));
  stage = (next_stage t 0 n m ls h low s.stage).stage;
  place_is = λ k less. rw (settle_none t n ls, past-low 12 k (omega arith), past-low 12 k (omega arith)) (s.place_is k (omega arith));
}
stage numbers t (suc zero) n m ls cells f h few upto low s =
    let one = stage_one numbers t n m ls cells f h (omega (arith, choose_one m)) s in
    record {
      board_is = one.board_is;
      stage = one.stage;
      place_is = λ k less. (let most = past-upto n k in rw (past-low 12 (past n k) (omega arith)) (one.place_is k less));
    }
stage numbers t (suc (suc zero)) n m ls cells f h few upto low s = stage_two numbers t n m ls cells f h low s
stage numbers t (suc (suc (suc p))) n m ls cells f h few upto low s = absurd (omega arith)

-- the squares of a choice are on the board
pub place_below : (numbers : ℕ → ℕ) (t n m : ℕ) (ls : List ℕ) (cells : List Cell) (f : ℕ → ℕ) → n < m → Stand numbers t m ls cells f → f n < 12
place_below numbers t n m ls cells f low s = grind (arith, empty_place-below)

pub first_below : (numbers : ℕ → ℕ) (t p n m : ℕ) (ls : List ℕ) (cells : List Cell) (f : ℕ → ℕ) → p ≤ 2 → n < choose m p → Stand numbers t m ls cells f →
    0 < p → f (first_place m p n) < 12
first_below numbers t (suc zero) n m ls cells f few low s some = place_below numbers t n m ls cells f (omega (arith, choose_one m)) s
first_below numbers t (suc (suc zero)) n m ls cells f few low s some =
    let choice = choice_of m n low in place_below numbers t (lower_of m n) m ls cells f (omega (arith, choice.rising, choice.below)) s
first_below numbers t p n m ls cells f few low s some = absurd (omega arith)

pub second_below : (numbers : ℕ → ℕ) (t p n m : ℕ) (ls : List ℕ) (cells : List Cell) (f : ℕ → ℕ) → p ≤ 2 → n < choose m p → Stand numbers t m ls cells f →
    1 < p → f (second_place m p n) < 12
second_below numbers t (suc (suc zero)) n m ls cells f few low s some = place_below numbers t (higher_of m n) m ls cells f (choice_of m n low).below s
second_below numbers t p n m ls cells f few low s some = absurd (omega arith)

-- ---- the squares of a choice are empty, and two
none_at : (numbers : ℕ → ℕ) (t s : ℕ) (ls : List ℕ) → IsOpen s t ls → slice_index_or (board_of numbers ls) s None ≡ None
none_at numbers t s [] o = refl
none_at numbers t zero (l ∷ ls) o = subst (λ (x : ℕ). cell_of x (numbers x / base_of x ^ count x ls % base_of x) ≡ None) (sym o) refl
none_at numbers t (suc s) (l ∷ ls) o = none_at numbers t s ls o.1

not_open : (t s : ℕ) (ls : List ℕ) → (t ≡ order Empty → ⊥) → IsOpen s t (set ls s t) → ⊥
not_open t s [] h o = o
not_open t zero (l ∷ ls) h o = h o
not_open t (suc s) (l ∷ ls) h o = not_open t s ls h o.1

pub free_at : (numbers : ℕ → ℕ) (t m : ℕ) (ls : List ℕ) (cells : List Cell) (f : ℕ → ℕ) → t < order Empty → Stand numbers t m ls cells f
    → (n : ℕ) → n < m → slice_index_or cells (f n) None ≡ None
free_at numbers t m ls cells f h s n low =
    let same : count (order Empty) ls ≡ m = s.stage.empty_is in
    rw (s.board_is, ← s.place_is n low) (none_at numbers t (empty_place ls n) ls
    (open_one t n ls (omega arith) (none_shown t ls h s.stage.shown) (omega arith)))

apart_at : (numbers : ℕ → ℕ) (t m : ℕ) (ls : List ℕ) (cells : List Cell) (f : ℕ → ℕ) → t < order Empty → Stand numbers t m ls cells f
    → (a b : ℕ) → a < b → b < m → f a ≢ f b
apart_at numbers t m ls cells f h s a b less low e =
    let same : count (order Empty) ls ≡ m = s.stage.empty_is in
    not_open t (empty_place ls b) ls (omega arith)
    (subst (λ (x : ℕ). IsOpen x t (set ls (empty_place ls b) t)) (s.place_is a (omega arith) ∙ e ∙ sym (s.place_is b low))
    (open_two t a b ls (omega arith) (none_shown t ls h s.stage.shown) less (omega arith)))

pub are_free : (numbers : ℕ → ℕ) (t p n m : ℕ) (ls : List ℕ) (cells : List Cell) (f : ℕ → ℕ) → t < order Empty → p ≤ 2 → n < choose m p
    → Stand numbers t m ls cells f → AreFree p (f (first_place m p n)) (f (second_place m p n)) cells
are_free numbers t zero n m ls cells f h few low s = grind arith
are_free numbers t (suc zero) n m ls cells f h few low s =
    let one = choose_one m in
    record {
      first_free = λ some. free_at numbers t m ls cells f h s n (omega arith);
      second_free = λ some. absurd (omega arith);
      are_two = λ some. absurd
          (omega arith);
    }
are_free numbers t (suc (suc zero)) n m ls cells f h few low s =
    let choice = choice_of m n low in
    let rising = choice.rising in
    let below = choice.below in
    record {
      first_free = λ some. free_at numbers t m ls cells f h s (lower_of m n) (omega arith);
      second_free = λ some. free_at numbers t m ls cells f h s (higher_of m n) below;
      are_two = λ some. apart_at numbers t m ls cells f h s (lower_of m n) (higher_of m n) rising below;
    }
are_free numbers t (suc (suc (suc p))) n m ls cells f h few low s = absurd (omega arith)

-- ---- the empty board
empty_board : (numbers : ℕ → ℕ) (n : ℕ) → replicate n None ≡ board_of numbers (replicate n (order Empty))
empty_board numbers zero = refl
empty_board numbers (suc n) = ap (λ (cs : List Cell). None ∷ cs) (empty_board numbers n)

every_place : (m n : ℕ) → n < m → empty_place (replicate m (order Empty)) n ≡ n
every_place zero n h = absurd (omega arith)
every_place (suc m) zero h = refl
every_place (suc m) (suc n) h = ap suc (every_place m n (omega arith))

pub start : (numbers : ℕ → ℕ) → Stand numbers (order OwnLion) 12 empty_layers (replicate 12 None) (λ n. n)
start numbers = record {
  board_is = empty_board numbers 12;
  stage = first_stage;
  place_is = every_place 12;
}

-- ---- the layers of a board's digits

-- where the squares stand that the lions, the chicks and the elephants leave
abbrev pub after_lions : List ℕ → ℕ → ℕ
after_lions ds n = past (slice_index ds 3) (past (slice_index ds 4) n)

abbrev pub after_chicks : List ℕ → List ℕ → ℕ → ℕ
after_chicks ob ds n =
    let i = slice_index ob 0 in
    let choice = slice_index ds 5 in
    after_lions ds (past (second_place free_squares i choice) (past (first_place free_squares i choice) n))

abbrev pub after_elephants : List ℕ → List ℕ → ℕ → ℕ
after_elephants ob ds n =
    let left = free_squares - slice_index ob 0 in
    let j = slice_index ob 1 in
    let choice = slice_index ds 6 in
    after_chicks ob ds (past (second_place left j choice) (past (first_place left j choice) n))

-- the board with the lions, with the chicks, with the elephants and with the giraffes
abbrev pub with_lions : List ℕ → List Cell
with_lions ds = set (set (replicate 12 None) (slice_index ds 3) (cell_of (order OwnLion) 0)) (past (slice_index ds 3) (slice_index ds 4))
    (cell_of (order EnemyLion) 0)

abbrev pub with_chicks : List ℕ → List ℕ → List Cell
with_chicks ob ds =
    let i = slice_index ob 0 in
    let choice = slice_index ds 5 in
    put (order Chicks) i (after_lions ds (first_place free_squares i choice)) (after_lions ds (second_place free_squares i choice)) (slice_index ds 8)
    (with_lions ds)

abbrev pub with_elephants : List ℕ → List ℕ → List Cell
with_elephants ob ds =
    let left = free_squares - slice_index ob 0 in
    let j = slice_index ob 1 in
    let choice = slice_index ds 6 in
    put (order Elephants) j (after_chicks ob ds (first_place left j choice)) (after_chicks ob ds (second_place left j choice)) (slice_index ds 9)
    (with_chicks ob ds)

abbrev pub with_giraffes : List ℕ → List ℕ → List Cell
with_giraffes ob ds =
    let left = free_squares - slice_index ob 0 - slice_index ob 1 in
    let k = slice_index ob 2 in
    let choice = slice_index ds 7 in
    put (order Giraffes) k (after_elephants ob ds (first_place left k choice)) (after_elephants ob ds (second_place left k choice)) (slice_index ds 10)
    (with_elephants ob ds)

-- the layers settled up to the lions, the chicks and the elephants
abbrev pub lions_by : List ℕ → List ℕ
lions_by ds = settle (order EnemyLion) 1 (slice_index ds 4) (settle (order OwnLion) 1 (slice_index ds 3) empty_layers)

abbrev pub chicks_by : List ℕ → List ℕ → List ℕ
chicks_by ob ds = settle (order Chicks) (slice_index ob 0) (slice_index ds 5) (lions_by ds)

abbrev pub elephants_by : List ℕ → List ℕ → List ℕ
elephants_by ob ds = settle (order Elephants) (slice_index ob 1) (slice_index ds 6) (chicks_by ob ds)

-- the board with the mover's lion alone
pub own_lion_stands : (ob ds : List ℕ) → AreChoices ob ds → Stand (numbers_by ds) (order EnemyLion) enemy_squares
    (settle (order OwnLion) 1 (slice_index ds 3) empty_layers)
    (set (replicate 12 None) (slice_index ds 3) (cell_of (order OwnLion) 0)) (past (slice_index ds 3))
own_lion_stands ob ds c =
    let own : slice_index ds 3 < own_squares = c.own_lion in
    stage_one (numbers_by ds) (order OwnLion) (slice_index ds 3) 12 empty_layers (replicate 12 None) (λ n. n) (omega arith) (omega arith)
    (start (numbers_by ds))

pub lions_stand : (ob ds : List ℕ) → AreChoices ob ds → Stand (numbers_by ds) (order Chicks) free_squares (lions_by ds) (with_lions ds) (after_lions ds)
lions_stand ob ds c = stage_one (numbers_by ds) (order EnemyLion) (slice_index ds 4) enemy_squares _ _ _ (omega arith) c.other_lion (own_lion_stands ob ds c)

pub chicks_stand : (ob ds : List ℕ) → AreChoices ob ds →
    Stand (numbers_by ds) (order Elephants) (free_squares - slice_index ob 0) (chicks_by ob ds) (with_chicks ob ds) (after_chicks ob ds)
chicks_stand ob ds c =
    stage (numbers_by ds) (order Chicks) _ (slice_index ds 5) free_squares _ _ _ (omega arith) c.chicks (omega arith) c.chick_squares (lions_stand ob ds c)

pub elephants_stand : (ob ds : List ℕ) → AreChoices ob ds →
    Stand (numbers_by ds) (order Giraffes) (free_squares - slice_index ob 0 - slice_index ob 1) (elephants_by ob ds) (with_elephants ob ds)
    (after_elephants ob ds)
elephants_stand ob ds c =
    stage (numbers_by ds) (order Elephants) _ (slice_index ds 6) _ _ _ _ (omega arith) c.elephants (omega arith) c.elephant_squares (chicks_stand ob ds c)

-- where the squares of a choice are on the board
abbrev pub AreChosen : (ℕ → ℕ) → ℕ → ℕ → ℕ → ℕ → ℕ → Type 0
AreChosen f m p n first second = (first ≡ f (first_place m p n)) × (second ≡ f (second_place m p n))

chosen_below : (numbers : ℕ → ℕ) (t p n m : ℕ) (ls : List ℕ) (cells : List Cell) (f : ℕ → ℕ) (first second : ℕ) → p ≤ 2 → n < choose m p
    → Stand numbers t m ls cells f → AreChosen f m p n first second → (0 < p → first < 12) × (1 < p → second < 12)
chosen_below numbers t p n m ls cells f first second few low s are =
    rw (are.0, are.1) (first_below numbers t p n m ls cells f few low s, second_below numbers t p n m ls cells f few low s)

pub chicks_below : (ob ds : List ℕ) (first second : ℕ) → AreChoices ob ds
    → AreChosen (after_lions ds) free_squares (slice_index ob 0) (slice_index ds 5) first second
    → (0 < slice_index ob 0 → first < 12) × (1 < slice_index ob 0 → second < 12)
chicks_below ob ds first second c =
    chosen_below (numbers_by ds) _ _ (slice_index ds 5) _ _ _ (after_lions ds) first second c.chicks c.chick_squares (lions_stand ob ds c)

pub elephants_below : (ob ds : List ℕ) (first second : ℕ) → AreChoices ob ds
    → AreChosen (after_chicks ob ds) (free_squares - slice_index ob 0) (slice_index ob 1) (slice_index ds 6) first second
    → (0 < slice_index ob 1 → first < 12) × (1 < slice_index ob 1 → second < 12)
elephants_below ob ds first second c =
    chosen_below (numbers_by ds) _ _ (slice_index ds 6) _ _ _ (after_chicks ob ds) first second c.elephants c.elephant_squares (chicks_stand ob ds c)

pub giraffes_below : (ob ds : List ℕ) (first second : ℕ) → AreChoices ob ds
    → AreChosen (after_elephants ob ds) (free_squares - slice_index ob 0 - slice_index ob 1) (slice_index ob 2) (slice_index ds 7) first second
    → (0 < slice_index ob 2 → first < 12) × (1 < slice_index ob 2 → second < 12)
giraffes_below ob ds first second c =
    chosen_below (numbers_by ds) _ _ (slice_index ds 7) _ _ _ (after_elephants ob ds) first second c.giraffes c.giraffe_squares (elephants_stand ob ds c)

pub whole_board : (ob ds : List ℕ) → AreChoices ob ds → with_giraffes ob ds ≡ board_of (numbers_by ds) (layers_by ob ds)
whole_board ob ds c =
    (stage (numbers_by ds) (order Giraffes) _ (slice_index ds 7) _ _ _ _ (omega arith) c.giraffes (omega arith) c.giraffe_squares
    (elephants_stand ob ds c)).board_is

-- pieces put on the same squares of the same board
pub put-same : (t p a b n : ℕ) (cells : List Cell) (a' b' : ℕ) (cells' : List Cell) → a ≡ a' → b ≡ b'
    → cells ≡ cells' → put t p a b n cells ≡ put t p a' b' n cells'
put-same t p a b n cells a' b' cells' e f g = rw (e, f, g) refl
