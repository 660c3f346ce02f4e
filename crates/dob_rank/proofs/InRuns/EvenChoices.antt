-- Choices of squares that are their own mirror image, where what stands before is its own image too: how many there are, by how many of the squares that are
-- left stand on column b, and how many pairs of columns a and c.
use Rattle.dob_rank.proofs.Common.{◌&&◌, ◌*◌, ◌+◌, ◌-◌, ◌<◌, ◌||◌, ◌∙◌, ◌∷◌, ◌≡◌, ◌≤◌, ◌⊎◌, Bool, List, [], ap, arith, cond, eqb, false, inl, inr}
use Rattle.dob_rank.proofs.Common.{length, ltb, map, not, refl, slice_index_or, subst, suc, sym, true, zero, ℕ, and_parts, cases_eq, eq-eqb, eqb-true}
use Rattle.dob_rank.proofs.Common.{le-ltb, lt-ltb, ne_eqb, mul_comm, sum_below-rises, sum_parts, sum_same, sum_times, one_if, choice, choose, count, settle, sum_below}
use Rattle.dob_rank.proofs.Common.{nat_tests, count_from, with_first}
use Rattle.dob_lists.proofs.Images.{sum_plus}
use Rattle.dob_rank.specs.EvenWays.{even_pairs}
use Rattle.dob_rank.proofs.Boards.Choices.{count_other, count_same}
use Rattle.dob_rank.proofs.Boards.LayerCounts.{length-settle}
use Rattle.dob_rank.proofs.Boards.Settled.{AreShown, settle_kept, settle_left, settle-settles}
use Rattle.dob_rank.proofs.InRuns.Lions.{mirror_layers}

-- ---- placements, each choice once

-- what stands on a square, where no more is asked than whether it is taken by others, by the pieces that are placed, or open
abbrev pub plain : ℕ → ℕ → ℕ
plain t l = cond (ltb l t) 0 (cond (eqb l t) 2 5)

abbrev pub is_open : ℕ → Bool
is_open l = eqb l 5

abbrev square_if : Bool → ℕ
square_if on = cond on 5 0

-- a sum over all ways to place so many pieces on open squares
abbrev pub sum_placed : (List ℕ → ℕ) → ℕ → List Bool → ℕ
sum_placed g zero bs = g (map square_if bs)
sum_placed g (suc p) [] = 0
sum_placed g (suc p) (b ∷ bs) = cond b (sum_placed (λ rs. g (2 ∷ rs)) p bs) 0 + sum_placed (λ rs. g (square_if b ∷ rs)) (suc p) bs

plain_low : (t l : ℕ) → l < t → plain t l ≡ 0
plain_low t l low = rw (lt-ltb l t low) refl

plain_own : (t : ℕ) → plain t t ≡ 2
plain_own t = rw (le-ltb t t (omega arith), eq-eqb t t refl) refl

plain_open : (t : ℕ) → t < 5 → plain t 5 ≡ 5
plain_open t low = rw (le-ltb 5 t (omega (arith, low)), ne_eqb 5 t (λ e. omega (arith, e, low))) refl

placed_off : (g : List ℕ → ℕ) (p : ℕ) (bs : List Bool) → sum_placed (λ rs. g (0 ∷ rs)) p bs ≡ sum_placed g p (false ∷ bs)
placed_off g zero bs = refl
placed_off g (suc p) bs =
    (let none : sum_placed (λ rs. g (0 ∷ rs)) (suc p) bs ≡ 0 + sum_placed (λ rs. g (0 ∷ rs)) (suc p) bs = omega arith in none)

settle_taken : (t p c : ℕ) (ls : List ℕ) → c < choose (count 5 ls) p → settle t (suc p) c (5 ∷ ls) ≡ t ∷ settle t p c ls
settle_taken t p c ls low =
    rw (lt-ltb c (choose (count 5 ls) p) low) (ap (λ (m : ℕ). t ∷ settle t m c ls) (let less : suc p - 1 ≡ p = omega arith in less))

settle_further : (t p c : ℕ) (ls : List ℕ) → settle t (suc p) (choose (count 5 ls) p + c) (5 ∷ ls) ≡ 5 ∷ settle t (suc p) c ls
settle_further t p c ls =
    settle_left t (suc p) (choose (count 5 ls) p + c) ls (omega arith)
    ∙ ap (λ (m : ℕ). 5 ∷ settle t (suc p) m ls)
    (let less : choose (count 5 ls) p + c - choose (count 5 ls) p ≡ c = omega arith in less)

-- the sum over choices is that over placements
abbrev pub over_choices : (List ℕ → ℕ) → ℕ → ℕ → List ℕ → ℕ
over_choices g t p ls = sum_below (λ c. g (map (plain t) (settle t p c ls))) (choose (count 5 ls) p)

abbrev AreSummed : ℕ → List ℕ → Type 0
AreSummed t ls = (g : List ℕ → ℕ) (p : ℕ) → over_choices g t p ls ≡ sum_placed g p (map is_open ls)

step_taken : (t l : ℕ) (ls : List ℕ) → t < 5 → l < t → AreSummed t ls → AreSummed t (l ∷ ls)
step_taken t l ls low lower again g p =
    let other : l ≡ 5 → ⊥ = λ e. omega (arith, e, low, lower) in
    ap (λ (n : ℕ). sum_below (λ c. g (map (plain t) (settle t p c (l ∷ ls)))) (choose n p)) (count_other 5 l ls other)
    ∙ sum_same (λ c. g (map (plain t) (settle t p c (l ∷ ls)))) (λ c. g (0 ∷ map (plain t) (settle t p c ls))) (choose (count 5 ls) p)
    (λ c below. ap g (ap (map (plain t)) (settle_kept t p c l ls other) ∙ ap (λ (x : ℕ). x ∷ map (plain t) (settle t p c ls)) (plain_low t l lower)))
    ∙ again (λ rs. g (0 ∷ rs)) p
    ∙ placed_off g p (map is_open ls)
    ∙ ap (λ (b : Bool). sum_placed g p (b ∷ map is_open ls)) (sym (ne_eqb l 5 other))

step_open : (t : ℕ) (ls : List ℕ) → t < 5 → AreSummed t ls → AreSummed t (5 ∷ ls)
step_open t ls low again g zero =
    ap (λ (x : ℕ). 0 + g (x ∷ map (plain t) (settle t 0 0 ls))) (plain_open t low) ∙ again (λ rs. g (5 ∷ rs)) 0
step_open t ls low again g (suc p) =
    let n = count 5 ls in
    let first : sum_below (λ c. g (map (plain t) (settle t (suc p) c (5 ∷ ls)))) (choose n p) ≡ sum_placed (λ rs. g (2 ∷ rs)) p (map is_open ls)
    = sum_same (λ c. g (map (plain t) (settle t (suc p) c (5 ∷ ls)))) (λ c. g (2 ∷ map (plain t) (settle t p c ls))) (choose n p)
    (λ c below. ap g (ap (map (plain t)) (settle_taken t p c ls below) ∙ ap (λ (x : ℕ). x ∷ map (plain t) (settle t p c ls)) (plain_own t)))
    ∙ again (λ rs. g (2 ∷ rs)) p in
    let second : sum_below (λ c. g (map (plain t) (settle t (suc p) (choose n p + c) (5 ∷ ls)))) (choose n (suc p))
    ≡ sum_placed (λ rs. g (5 ∷ rs)) (suc p) (map is_open ls)
    = sum_same (λ c. g (map (plain t) (settle t (suc p) (choose n p + c) (5 ∷ ls)))) (λ c. g (5 ∷ map (plain t) (settle t (suc p) c ls))) (choose n (suc p))
    (λ c below. ap g (ap (map (plain t)) (settle_further t p c ls) ∙ ap (λ (x : ℕ). x ∷ map (plain t) (settle t (suc p) c ls)) (plain_open t low)))
    ∙ again (λ rs. g (5 ∷ rs)) (suc p) in
    ap (λ (m : ℕ). sum_below (λ c. g (map (plain t) (settle t (suc p) c (5 ∷ ls)))) (choose m (suc p))) (count_same 5 ls)
    ∙ sum_parts (λ c. g (map (plain t) (settle t (suc p) c (5 ∷ ls)))) (choose n p) (choose n (suc p))
    ∙ (let both : sum_below (λ c. g (map (plain t) (settle t (suc p) c (5 ∷ ls)))) (choose n p)
    + sum_below (λ c. g (map (plain t) (settle t (suc p) (choose n p + c) (5 ∷ ls)))) (choose n (suc p))
    ≡ sum_placed (λ rs. g (2 ∷ rs)) p (map is_open ls) + sum_placed (λ rs. g (5 ∷ rs)) (suc p) (map is_open ls) = omega (arith, first, second) in both)

no_squares : (t : ℕ) → AreSummed t []
no_squares t g zero = (let one : 0 + g [] ≡ g [] = omega arith in one)
no_squares t g (suc p) = refl

pub choices_placed : (t : ℕ) (ls : List ℕ) → t < 5 → AreShown t ls → AreSummed t ls
choices_placed t [] low shown = no_squares t
choices_placed t (l ∷ ls) low shown = elim shown.0 [
  | inl lower ↦ step_taken t l ls low lower (choices_placed t ls low shown.1)
  | inr is ↦ subst (λ (x : ℕ). AreSummed t (x ∷ ls)) (sym is) (step_open t ls low (choices_placed t ls low shown.1))
]

-- ---- computed for each set of open squares that is its own image

-- how many open squares of column b, and how many open pairs of columns a and c
abbrev pub middles : List ℕ → ℕ
middles rs = one_if (is_open (slice_index_or rs 1 0)) + one_if (is_open (slice_index_or rs 4 0)) + one_if (is_open (slice_index_or rs 7 0))
    + one_if (is_open (slice_index_or rs 10 0))

abbrev pub pairs : List ℕ → ℕ
pairs rs = one_if (is_open (slice_index_or rs 0 0)) + one_if (is_open (slice_index_or rs 3 0)) + one_if (is_open (slice_index_or rs 6 0))
    + one_if (is_open (slice_index_or rs 9 0))

-- the choice of the layer is that of the mirror image
abbrev pub is_even : ℕ → List ℕ → Bool
is_even t rs = eqb (choice t rs) (choice t (mirror_layers rs))

-- an even choice leaves so many squares of column b and so many pairs
abbrev pub leaves_middles : ℕ → List ℕ → Bool
leaves_middles k rs = is_even 2 rs && eqb (pairs rs) k

abbrev pub leaves_pairs : ℕ → List ℕ → Bool
leaves_pairs k rs = is_even 2 rs && eqb (pairs rs + 1) k

abbrev pub is_odd_one : ℕ → ℕ → ℕ → List ℕ → Bool
is_odd_one p m k rs = is_even 2 rs && not ((eqb (pairs rs) k && eqb (middles rs + p) m) || (eqb (pairs rs + 1) k && eqb (middles rs) m))

abbrev is_told_of : ℕ → List Bool → ℕ → ℕ → Bool
is_told_of p bs m k =
    eqb (sum_placed (λ rs. one_if (is_odd_one p m k rs)) p bs) 0
    && (eqb (sum_placed (λ rs. one_if (leaves_middles k rs)) p bs) (choose m p)
    && eqb (sum_placed (λ rs. one_if (leaves_pairs k rs)) p bs) (even_pairs p k))

abbrev is_told : ℕ → List Bool → Bool
is_told p bs = is_told_of p bs (middles (map square_if bs)) (pairs (map square_if bs))

abbrev bits_of : Bool → Bool → Bool → Bool → Bool → Bool → Bool → Bool → List Bool
bits_of a b c d e i j k = a ∷ b ∷ a ∷ c ∷ d ∷ c ∷ e ∷ i ∷ e ∷ j ∷ k ∷ j ∷ []

abbrev both : (Bool → Bool) → Bool
both f = f true && f false

both_at : (f : Bool → Bool) (b : Bool) → both f ≡ true → f b ≡ true
both_at f true all = (and_parts (f true) (f false) all).0
both_at f false all = (and_parts (f true) (f false) all).1

abbrev on_last : ℕ → Bool → Bool → Bool → Bool → Bool
on_last p a b c d = both (λ e. both (λ i. both (λ j. both (λ k. is_told p (bits_of a b c d e i j k)))))

at_last : (p : ℕ) (a b c d e i j k : Bool) → on_last p a b c d ≡ true → is_told p (bits_of a b c d e i j k) ≡ true
at_last p a b c d e i j k all =
    both_at (λ z. is_told p (bits_of a b c d e i j z)) k
    (both_at (λ y. both (λ z. is_told p (bits_of a b c d e i y z))) j
    (both_at (λ x. both (λ y. both (λ z. is_told p (bits_of a b c d e x y z)))) i
    (both_at (λ w. both (λ x. both (λ y. both (λ z. is_told p (bits_of a b c d w x y z))))) e all)))

none_told : both (λ a. both (λ b. both (λ c. both (on_last 0 a b c)))) ≡ true
none_told = refl

one_told : both (λ a. both (λ b. both (λ c. both (on_last 1 a b c)))) ≡ true
one_told = refl

two_told_1 : both (λ c. both (on_last 2 true true c)) ≡ true
two_told_1 = refl

two_told_2 : both (λ c. both (on_last 2 true false c)) ≡ true
two_told_2 = refl

two_told_3 : both (λ c. both (on_last 2 false true c)) ≡ true
two_told_3 = refl

two_told_4 : both (λ c. both (on_last 2 false false c)) ≡ true
two_told_4 = refl

-- ---- so it is of each such board
pub told : (p : ℕ) (a b c d e i j k : Bool) → p ≤ 2 → is_told p (bits_of a b c d e i j k) ≡ true
told zero a b c d e i j k few =
    at_last 0 a b c d e i j k
    (both_at (on_last 0 a b c) d
    (both_at (λ z. both (on_last 0 a b z)) c
    (both_at (λ y. both (λ z. both (on_last 0 a y z))) b
    (both_at (λ x. both (λ y. both (λ z. both (on_last 0 x y z)))) a none_told))))
told (suc zero) a b c d e i j k few =
    at_last 1 a b c d e i j k
    (both_at (on_last 1 a b c) d
    (both_at (λ z. both (on_last 1 a b z)) c
    (both_at (λ y. both (λ z. both (on_last 1 a y z))) b
    (both_at (λ x. both (λ y. both (λ z. both (on_last 1 x y z)))) a one_told))))
told (suc (suc zero)) true true c d e i j k few =
    at_last 2 true true c d e i j k (both_at (on_last 2 true true c) d (both_at (λ z. both (on_last 2 true true z)) c two_told_1))
told (suc (suc zero)) true false c d e i j k few =
    at_last 2 true false c d e i j k (both_at (on_last 2 true false c) d (both_at (λ z. both (on_last 2 true false z)) c two_told_2))
told (suc (suc zero)) false true c d e i j k few =
    at_last 2 false true c d e i j k (both_at (on_last 2 false true c) d (both_at (λ z. both (on_last 2 false true z)) c two_told_3))
told (suc (suc zero)) false false c d e i j k few =
    at_last 2 false false c d e i j k (both_at (on_last 2 false false c) d (both_at (λ z. both (on_last 2 false false z)) c two_told_4))
told (suc (suc (suc p))) a b c d e i j k few = absurd (omega (arith, few))

-- the board of twelve squares is its own mirror image
pub record IsEvenBoard (t : ℕ) (ls : List ℕ) : Type 0 where
  pub long : length ls ≡ 12
  pub shown : AreShown t ls
  pub even : mirror_layers ls ≡ ls

bits_even : (ls : List ℕ) (p : ℕ) → p ≤ 2 → length ls ≡ 12 → mirror_layers ls ≡ ls → is_told p (map is_open ls) ≡ true
bits_even (a ∷ b ∷ c ∷ d ∷ e ∷ i ∷ j ∷ k ∷ l ∷ m ∷ n ∷ o ∷ []) p few long even =
    let bits : bits_of (is_open a) (is_open b) (is_open d) (is_open e) (is_open j) (is_open k) (is_open m) (is_open n)
    ≡ map is_open (a ∷ b ∷ c ∷ d ∷ e ∷ i ∷ j ∷ k ∷ l ∷ m ∷ n ∷ o ∷ []) = cc in
    subst (λ (bs : List Bool). is_told p bs ≡ true) bits
    (told p (is_open a) (is_open b) (is_open d) (is_open e) (is_open j) (is_open k) (is_open m) (is_open n) few)
bits_even ls p few long even = absurd (omega arith)

open_if : (b : Bool) → is_open (square_if b) ≡ b
open_if true = refl
open_if false = refl

-- one square of four is open as often
same_four : (a b c d x y z w : ℕ) → a ≡ x → b ≡ y → c ≡ z → d ≡ w → a + b + c + d ≡ x + y + z + w
same_four a b c d x y z w p q r s = omega arith

counts_of_bits : (ls : List ℕ) → length ls ≡ 12
    → (middles (map square_if (map is_open ls)) ≡ middles ls) × (pairs (map square_if (map is_open ls)) ≡ pairs ls)
counts_of_bits (a ∷ b ∷ c ∷ d ∷ e ∷ i ∷ j ∷ k ∷ l ∷ m ∷ n ∷ o ∷ []) long = (
  same_four _ _ _ _ _ _ _ _ (ap one_if (open_if (is_open b))) (ap one_if (open_if (is_open e))) (ap one_if (open_if (is_open k))) (ap one_if (open_if (is_open n))),
  same_four _ _ _ _ _ _ _ _ (ap one_if (open_if (is_open a))) (ap one_if (open_if (is_open d))) (ap one_if (open_if (is_open j))) (ap one_if (open_if (is_open m))),
)
counts_of_bits ls long = absurd (omega arith)

-- ---- what a choice says by its plain layers
pub count_plain : (t : ℕ) (ls : List ℕ) → count 2 (map (plain t) ls) ≡ count t ls
count_plain t [] = refl
count_plain t (l ∷ ls) = grind (arith, nat_tests, count_plain t ls)

from_plain : (t : ℕ) (ls : List ℕ) → count_from 2 (map (plain t) ls) ≡ count_from t ls
from_plain t [] = refl
from_plain t (l ∷ ls) = grind (arith, nat_tests, from_plain t ls)

later_plain : (t l : ℕ) → ltb 2 (plain t l) ≡ ltb t l
later_plain t l = grind (arith, nat_tests)

pub choice_plain : (t : ℕ) (ls : List ℕ) → choice 2 (map (plain t) ls) ≡ choice t ls
choice_plain t [] = refl
choice_plain t (l ∷ ls) =
    let first : with_first (count_from 2 (map (plain t) ls)) (count 2 (map (plain t) ls)) ≡ with_first (count_from t ls) (count t ls)
    = ap (λ (n : ℕ). with_first n (count 2 (map (plain t) ls))) (from_plain t ls) ∙ ap (with_first (count_from t ls)) (count_plain t ls) in
    let here : cond (ltb 2 (plain t l)) (with_first (count_from 2 (map (plain t) ls)) (count 2 (map (plain t) ls))) 0
    ≡ cond (ltb t l) (with_first (count_from t ls) (count t ls)) 0
    = ap (λ (n : ℕ). cond (ltb 2 (plain t l)) n 0) first ∙ ap (λ (b : Bool). cond b (with_first (count_from t ls) (count t ls)) 0) (later_plain t l) in
    let rest = choice_plain t ls in
    omega (arith, here, rest)

mirror_plain : (t : ℕ) (ls : List ℕ) → length ls ≡ 12 → mirror_layers (map (plain t) ls) ≡ map (plain t) (mirror_layers ls)
mirror_plain t (a ∷ b ∷ c ∷ d ∷ e ∷ i ∷ j ∷ k ∷ l ∷ m ∷ n ∷ o ∷ []) long = refl
mirror_plain t ls long = absurd (omega arith)

pub even_plain : (t : ℕ) (ls : List ℕ) → length ls ≡ 12 → is_even 2 (map (plain t) ls) ≡ is_even t ls
even_plain t ls long =
    ap (λ (n : ℕ). eqb n (choice 2 (mirror_layers (map (plain t) ls)))) (choice_plain t ls)
    ∙ ap (λ (xs : List ℕ). eqb (choice t ls) (choice 2 xs)) (mirror_plain t ls long)
    ∙ ap (eqb (choice t ls)) (choice_plain t (mirror_layers ls))

open_plain : (t l : ℕ) → t < 5 → (l < suc t) ⊎ (l ≡ 5) → is_open (plain t l) ≡ is_open l
open_plain t l low shown = grind (arith, nat_tests, shown)

pub counts_plain : (t : ℕ) (ls : List ℕ) → t < 5 → length ls ≡ 12 → AreShown (suc t) ls
    → (middles (map (plain t) ls) ≡ middles ls) × (pairs (map (plain t) ls) ≡ pairs ls)
counts_plain t (a ∷ b ∷ c ∷ d ∷ e ∷ i ∷ j ∷ k ∷ l ∷ m ∷ n ∷ o ∷ []) low long shown =
    let open_at : (l : ℕ) → (l < suc t) ⊎ (l ≡ 5) → one_if (is_open (plain t l)) ≡ one_if (is_open l)
    = λ l on. ap one_if (open_plain t l low on) in (
      same_four _ _ _ _ _ _ _ _ (open_at b shown.1.0) (open_at e shown.1.1.1.1.0) (open_at k shown.1.1.1.1.1.1.1.0) (open_at n shown.1.1.1.1.1.1.1.1.1.1.0),
      same_four _ _ _ _ _ _ _ _ (open_at a shown.0) (open_at d shown.1.1.1.0) (open_at j shown.1.1.1.1.1.1.0) (open_at m shown.1.1.1.1.1.1.1.1.1.0),
    )
counts_plain t ls low long shown = absurd (omega arith)

-- ---- how many choices are their own mirror image

-- no term of a sum that is none
pub none_of : (f : ℕ → ℕ) (n k : ℕ) → sum_below f n ≡ 0 → k < n → f k ≡ 0
none_of f n k none low = omega (arith, none, sum_below-rises f k n low)

-- what an even choice leaves
pub split_even : (G : ℕ → ℕ → ℕ) (on : Bool) (p m k x y : ℕ)
    → one_if (on && not ((eqb y k && eqb (x + p) m) || (eqb (y + 1) k && eqb x m))) ≡ 0
    → one_if on * G x y ≡ one_if (on && eqb y k) * G (m - p) k + one_if (on && eqb (y + 1) k) * G m (k - 1)
split_even G false p m k x y fits = (let none : 0 * G x y ≡ 0 * G (m - p) k + 0 * G m (k - 1) = omega arith in none)
split_even G true p m k x y fits = elim (cases_eq y k) [
  | inl same ↦
      let left : x ≡ m - p = grind (arith, nat_tests, fits, same) in
      rw (eq-eqb y k same, ne_eqb (y + 1) k (λ e. omega (arith, e, same)), left, same)
      (let one : 1 * G (m - p) k ≡ 1 * G (m - p) k + 0 * G m (k - 1) = omega arith in one)
  | inr apart ↦
      let more : y + 1 ≡ k = grind (arith, nat_tests, fits, apart) in
      let all : x ≡ m = grind (arith, nat_tests, fits, apart) in
      let less : y ≡ k - 1 = omega (arith, more) in
      rw (ne_eqb y k apart, eq-eqb (y + 1) k more, all)
      (ap (λ (n : ℕ). 1 * G m n) less ∙ (let one : 1 * G m (k - 1) ≡ 0 * G (m - p) k + 1 * G m (k - 1) = omega arith in one))
]

-- the sum over the even choices of what may follow them, by the squares that they leave
pub even_choices : (G : ℕ → ℕ → ℕ) (t p : ℕ) (ls : List ℕ) → t < 5 → p ≤ 2 → IsEvenBoard t ls
    → sum_below (λ c. one_if (is_even t (settle t p c ls)) * G (middles (settle t p c ls)) (pairs (settle t p c ls))) (choose (count 5 ls) p)
    ≡ choose (middles ls) p * G (middles ls - p) (pairs ls) + even_pairs p (pairs ls) * G (middles ls) (pairs ls - 1)
even_choices G t p ls low few is =
    let n = choose (count 5 ls) p in
    let m = middles ls in
    let k = pairs ls in
    let rs = λ (c : ℕ). map (plain t) (settle t p c ls) in
    let counts = counts_of_bits ls is.long in
    let told_here : is_told_of p (map is_open ls) m k ≡ true
    = ap (λ (x : ℕ). is_told_of p (map is_open ls) x k) (sym counts.0) ∙ ap (is_told_of p (map is_open ls) (middles (map square_if (map is_open ls)))) (sym counts.1)
    ∙ bits_even ls p few is.long is.even in
    let parts = and_parts _ _ told_here in
    let more = and_parts _ _ parts.1 in
    let odd : over_choices (λ xs. one_if (is_odd_one p m k xs)) t p ls ≡ 0
    = choices_placed t ls low is.shown (λ xs. one_if (is_odd_one p m k xs)) p ∙ eqb-true _ 0 parts.0 in
    let mids : over_choices (λ xs. one_if (leaves_middles k xs)) t p ls ≡ choose m p
    = choices_placed t ls low is.shown (λ xs. one_if (leaves_middles k xs)) p ∙ eqb-true _ (choose m p) more.0 in
    let twos : over_choices (λ xs. one_if (leaves_pairs k xs)) t p ls ≡ even_pairs p k
    = choices_placed t ls low is.shown (λ xs. one_if (leaves_pairs k xs)) p ∙ eqb-true _ (even_pairs p k) more.1 in
    let each : (c : ℕ) → c < n → one_if (is_even t (settle t p c ls)) * G (middles (settle t p c ls)) (pairs (settle t p c ls))
    ≡ one_if (leaves_middles k (rs c)) * G (m - p) k + one_if (leaves_pairs k (rs c)) * G m (k - 1)
    = λ c below.
    let long = length-settle t p c ls ∙ is.long in
    let settled = settle-settles t p c ls low is.shown below in
    let same = counts_plain t (settle t p c ls) low long settled.shown in
    ap (λ (b : Bool). one_if b * G (middles (settle t p c ls)) (pairs (settle t p c ls))) (sym (even_plain t (settle t p c ls) long))
    ∙ ap (λ (x : ℕ). one_if (is_even 2 (rs c)) * G x (pairs (settle t p c ls))) (sym same.0)
    ∙ ap (λ (y : ℕ). one_if (is_even 2 (rs c)) * G (middles (rs c)) y) (sym same.1)
    ∙ split_even G (is_even 2 (rs c)) p m k (middles (rs c)) (pairs (rs c))
    (none_of (λ (x : ℕ). one_if (is_odd_one p m k (rs x))) n c odd below) in
    sum_same _ (λ c. one_if (leaves_middles k (rs c)) * G (m - p) k + one_if (leaves_pairs k (rs c)) * G m (k - 1)) n each
    ∙ sum_plus (λ c. one_if (leaves_middles k (rs c)) * G (m - p) k) (λ c. one_if (leaves_pairs k (rs c)) * G m (k - 1)) n
    ∙ add (factor (λ c. one_if (leaves_middles k (rs c))) (G (m - p) k) n (choose m p) mids)
    (factor (λ c. one_if (leaves_pairs k (rs c))) (G m (k - 1)) n (even_pairs p k) twos)
  where
    factor : (f : ℕ → ℕ) (x n total : ℕ) → sum_below f n ≡ total → sum_below (λ c. f c * x) n ≡ total * x
    factor f x n total is =
        sum_same (λ c. f c * x) (λ c. x * f c) n (λ c below. mul_comm (f c) x) ∙ sum_times x f n ∙ ap (λ (y : ℕ). x * y) is ∙ mul_comm x total

    add : {a b c d : ℕ} → a ≡ b → c ≡ d → a + c ≡ b + d
    add p q = cc
