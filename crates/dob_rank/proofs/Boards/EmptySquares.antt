-- The empty squares of a list of layers: where they stand, what is left of them, and the layers that pieces on them make.
use Rattle.dob_rank.proofs.Common.{◌+◌, ◌-◌, ◌<◌, ◌∷◌, ◌≡◌, ◌≤◌, List, [], arith, cond, eqb, length, refl, set, suc, zero, ℕ, lt-ltb, ne_eqb, choose, count}
use Rattle.dob_rank.proofs.Common.{order, settle, with_first, higher_of, lower_of, past, Empty, nat_tests}

-- ---- the empty squares of a list of layers

-- the square of the empty one of that number
abbrev pub empty_place : List ℕ → ℕ → ℕ
empty_place [] n = 0
empty_place (l ∷ ls) zero = cond (eqb l (order Empty)) 0 (suc (empty_place ls zero))
empty_place (l ∷ ls) (suc n) = suc (empty_place ls (cond (eqb l (order Empty)) n (suc n)))

pub kept : (l : ℕ) (ls : List ℕ) (n : ℕ) → (l ≡ order Empty → ⊥) → empty_place (l ∷ ls) n ≡ suc (empty_place ls n)
kept l ls zero h = rw (ne_eqb l (order Empty) h) refl
kept l ls (suc n) h = rw (ne_eqb l (order Empty) h) refl

pub empty_place-below : (ls : List ℕ) (n : ℕ) → n < count (order Empty) ls → empty_place ls n < length ls
empty_place-below [] n h = absurd (omega arith)
empty_place-below (l ∷ ls) zero h = grind (arith, nat_tests, empty_place-below ls 0)
empty_place-below (l ∷ ls) (suc n) h = grind (arith, nat_tests, empty_place-below ls n, empty_place-below ls (suc n))

pub past-low : (a n : ℕ) → n < a → past a n ≡ n
past-low a n h = rw (lt-ltb n a h) refl

pub past-upto : (a n : ℕ) → past a n ≤ n + 1
past-upto a n = grind (arith, nat_tests)

pub empty_place-set : (t a n : ℕ) (ls : List ℕ) → (t ≡ order Empty → ⊥) → empty_place (set ls (empty_place ls a) t) n ≡ empty_place ls (past a n)
empty_place-set t a n [] h = refl
empty_place-set t zero n (l ∷ ls) h = grind (arith, nat_tests, empty_place-set t 0 n ls h, kept l (set ls (empty_place ls 0) t) n, kept t ls n h, kept l ls)
empty_place-set t (suc a) n (l ∷ ls) h = grind (arith, nat_tests, empty_place-set t (suc a) n ls h, empty_place-set t a (n - 1) ls h, kept l ls)

-- ---- settled layers are written
pub settle_none : (t n : ℕ) (ls : List ℕ) → settle t 0 n ls ≡ ls
settle_none t n [] = refl
settle_none t n (l ∷ ls) = grind (arith, nat_tests, settle_none t n ls, settle_none t (n - 0) ls)

pub one_way : (m : ℕ) → with_first m 1 ≡ 1
one_way zero = refl
one_way (suc m) = refl

pub settle_one : (t n : ℕ) (ls : List ℕ) → n < count (order Empty) ls → settle t 1 n ls ≡ set ls (empty_place ls n) t
settle_one t n [] h = absurd (omega arith)
settle_one t zero (l ∷ ls) h = grind (arith, nat_tests, settle_one t 0 ls, one_way (count (order Empty) ls), settle_none t 0 ls)
settle_one t (suc n) (l ∷ ls) h = grind (arith, nat_tests, settle_one t (suc n) ls, settle_one t n ls, one_way (count (order Empty) ls))

pub choose_one : (m : ℕ) → choose m 1 ≡ m
choose_one zero = refl
choose_one (suc m) = grind (arith, choose_one m)

-- where so many are empty
settle_two_at : (t n m : ℕ) (ls : List ℕ) → count (order Empty) ls ≡ m → n < choose m 2 →
    settle t 2 n ls ≡ set (set ls (empty_place ls (higher_of m n)) t) (empty_place ls (lower_of m n)) t
settle_two_at t n zero ls e h = absurd (omega arith)
settle_two_at t n (suc m) [] e h = absurd (omega arith)
settle_two_at t n (suc m) (l ∷ ls) e h =
    grind (arith, nat_tests, settle_two_at t n (suc m) ls, settle_two_at t (n - m) m ls, settle_one t n ls, choose_one, kept)

pub settle_two : (t n : ℕ) (ls : List ℕ) → n < choose (count (order Empty) ls) 2 →
    settle t 2 n ls ≡ set (set ls (empty_place ls (higher_of (count (order Empty) ls) n)) t) (empty_place ls (lower_of (count (order Empty) ls) n)) t
settle_two t n ls h = settle_two_at t n (count (order Empty) ls) ls refl h
