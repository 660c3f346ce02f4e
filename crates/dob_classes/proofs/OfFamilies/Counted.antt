-- Lists without repeats, and what two counts have to do with each other: a count is one number, and what has more has a
-- greater one.
use Rattle.dob_classes.proofs.Common.{◌<◌, ◌∙◌, ◌∷◌, ◌≡◌, ◌≢◌, ◌≤◌, List, [], arith, inl, inr, length, refl, subst, suc, sym, ℕ, remove, Setup, HasCount}
use Rattle.std.proofs.Common.{All, AllPairs, Contains}
use Rattle.std.proofs.lemmas.List.{get_or_default}
use Rattle.std.proofs.lemmas.List.Elements.{All-contains, Contains-append_right}
use Rattle.std.proofs.lemmas.List.Kept.{AllPairs-cons}
use Rattle.std.proofs.lemmas.List.Sorted.{IsPermutation-remove, Contains-permutation, length_permutation}
use Rattle.dob_pieces.proofs.Lists.{cons_cases}

-- ---- lists without repeats
pub pairs-head : {X : Type 0} (R : X → X → Type 0) (x : X) (xs : List X) → AllPairs R (x ∷ xs) → All (R x) xs
pairs-head R x xs h = λ k d lt. h 0 (suc k) d (omega arith) (omega arith)

pub pairs-tail : {X : Type 0} (R : X → X → Type 0) (x : X) (xs : List X) → AllPairs R (x ∷ xs) → AllPairs R xs
pairs-tail R x xs h = λ i j d lt within. h (suc i) (suc j) d (omega arith) (omega arith)

-- a list without repeats is no longer than one that has all its elements
pub no_longer : {X : Type 0} (xs ys : List X) → AllPairs (λ (a b : X). a ≢ b) xs → ((x : X) → Contains xs x → Contains ys x)
    → length xs ≤ length ys
no_longer [] ys once within = omega arith
no_longer {X} (x ∷ xs) ys once within =
    let at = within x (0, omega arith, refl) in
    let moved = IsPermutation-remove ys at.0 x at.1 (sym at.2) in
    let shorter = length_permutation ys (x ∷ remove ys at.0) moved in
    let rest = no_longer xs (remove ys at.0) (pairs-tail (λ (a b : X). a ≢ b) x xs once) (λ y in_xs.
    elim (cons_cases x (remove ys at.0) y (Contains-permutation ys (x ∷ remove ys at.0) y moved (within y (Contains-append_right (x ∷ []) xs y in_xs)))) [
      | inl e ↦ absurd (All-contains (λ (z : X). x ≢ z) xs y (pairs-head (λ (a b : X). a ≢ b) x xs once) in_xs e)
      | inr left ↦ left
    ]) in
    omega (arith, shorter, rest)

-- and shorter where the other has one more
pub shorter : {X : Type 0} (xs ys : List X) (w : X) → AllPairs (λ (a b : X). a ≢ b) xs → ((x : X) → Contains xs x → Contains ys x)
    → Contains ys w → ¬ Contains xs w → length xs < length ys
shorter {X} xs ys w once within there absent =
    no_longer (w ∷ xs) ys
    (AllPairs-cons (λ (a b : X). a ≢ b) w xs (λ k d lt e. absent (k, lt, get_or_default xs k w d lt ∙ sym e)) once)
    (λ x in_more.
    elim (cons_cases w xs x in_more) [ inl e ↦ subst (Contains ys) e there | inr in_xs ↦ within x in_xs ])

-- ---- counts

-- what implies something has no greater count
pub no_more : (P Q : Setup → Type 0) (m n : ℕ) → HasCount P m → HasCount Q n → ((s : Setup) → P s → Q s) → m ≤ n
no_more P Q m n hp hq implied =
    omega (arith, no_longer hp.list hq.list hp.once (λ s in_p. hq.whole s (implied s (All-contains P hp.list s hp.sound in_p))), hp.counted, hq.counted)

-- and a lesser one where some setup has the other alone
pub fewer : (P Q : Setup → Type 0) (m n : ℕ) (w : Setup) → HasCount P m → HasCount Q n → ((s : Setup) → P s → Q s) → Q w → ¬ P w → m < n
fewer P Q m n w hp hq implied has lacks =
    let lt = shorter hp.list hq.list w hp.once (λ s in_p. hq.whole s (implied s (All-contains P hp.list s hp.sound in_p))) (hq.whole w has)
    (λ in_p. lacks (All-contains P hp.list w hp.sound in_p)) in
    omega (arith, lt, hp.counted, hq.counted)

-- what implies each other has one count
pub same_count : (P Q : Setup → Type 0) (m n : ℕ) → HasCount P m → HasCount Q n → ((s : Setup) → P s → Q s) → ((s : Setup) → Q s → P s) → m ≡ n
same_count P Q m n hp hq onward back =
    let up = no_more P Q m n hp hq onward in
    let down = no_more Q P n m hq hp back in
    omega arith

-- there are so many, and no other number of them
pub one_count : (P : Setup → Type 0) (m n : ℕ) → HasCount P m → HasCount P n → m ≡ n
one_count P m n a b = same_count P P m n a b (λ s has. has) (λ s has. has)
