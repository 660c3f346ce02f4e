-- Choices of squares: one step at a time, their bound, and their order.
use Rattle.dob_rank.proofs.Common.{◌+◌, ◌<◌, ◌∙◌, ◌∷◌, ◌≡◌, ◌≤◌, ◌⊎◌, List, [], ap, arith, eqb, refl, suc, zero, ℕ, eq-eqb, le-ltb, ne_eqb, choice, choose}
use Rattle.dob_rank.proofs.Common.{count, count_from, with_first, Precedes, squares_from, nat_tests}

-- ---- one more cell in front
pub count_same : (t : ℕ) (ls : List ℕ) → count t (t ∷ ls) ≡ suc (count t ls)
count_same t ls = rw (eq-eqb t t refl) (omega arith)

pub count_other : (t l : ℕ) (ls : List ℕ) → (l ≡ t → ⊥) → count t (l ∷ ls) ≡ count t ls
count_other t l ls h = rw (ne_eqb l t h) (omega arith)

pub count_at : (t l : ℕ) (ls : List ℕ) → l ≡ t → count t (l ∷ ls) ≡ suc (count t ls)
count_at t l ls e = ap (λ (x : ℕ). count t (x ∷ ls)) e ∙ count_same t ls

pub no_first : (t l : ℕ) (ls : List ℕ) → count t (l ∷ ls) ≡ 0 → (l ≡ t → ⊥) × (count t ls ≡ 0)
no_first t l ls h = (grind (arith, nat_tests), grind (arith, nat_tests))

pub count_from_later : (t l : ℕ) (ls : List ℕ) → t ≤ l → count_from t (l ∷ ls) ≡ suc (count_from t ls)
count_from_later t l ls h = rw (le-ltb l t h) (omega arith)

-- one more square: the first is chosen or it isn't
pub choose-split : (squares pieces : ℕ) → choose (suc squares) pieces ≡ with_first squares pieces + choose squares pieces
choose-split squares zero = omega arith
choose-split squares (suc pieces) = refl

choose-more : (squares fewer pieces : ℕ) → squares ≡ suc fewer → choose squares pieces ≡ with_first fewer pieces + choose fewer pieces
choose-more squares fewer pieces e = rw e (choose-split fewer pieces)

pub with_first-suc : (squares pieces more : ℕ) → more ≡ suc pieces → with_first squares more ≡ choose squares pieces
with_first-suc squares pieces more e = grind arith

-- ---- the bound
pub choice-below : (t : ℕ) (ls : List ℕ) → choice t ls < choose (count_from t ls) (count t ls)
choice-below t [] = omega arith
choice-below t (l ∷ ls) =
    let more = choose-more (count_from t (l ∷ ls)) (count_from t ls) (count t (l ∷ ls)) in
    grind (arith, nat_tests, choice-below t ls, more, with_first-suc (count_from t ls) (count t ls) (count t (l ∷ ls)))

-- ---- the squares of a layer
abbrev pub layer_squares : ℕ → ℕ → List ℕ → List ℕ
layer_squares t from ls = squares_from from (λ (l : ℕ). eqb l t) ls

-- squares that begin later don't precede, unless there are none
pub none_from_later : (t s from : ℕ) (ls ys : List ℕ) → s < from → Precedes (layer_squares t from ls) (s ∷ ys) → count t ls ≡ 0
none_from_later t s from [] ys h p = refl
none_from_later t s from (l ∷ ls) ys h p = grind (arith, nat_tests, none_from_later t s (suc from) ls ys)

-- squares that begin later aren't equal
pub unlike_from_later : (t s from : ℕ) (ls ys : List ℕ) → s < from → layer_squares t from ls ≡ s ∷ ys → ⊥
unlike_from_later t s from [] ys h e = cc
unlike_from_later t s from (l ∷ ls) ys h e = grind (arith, nat_tests, unlike_from_later t s (suc from) ls ys)

-- ---- the order

-- the same squares have the same layers below t, and both have later ones elsewhere
abbrev pub AlikeAt : ℕ → ℕ → ℕ → Type 0
AlikeAt t x y = ((x ≡ y) × (x < t)) ⊎ ((t ≤ x) × (t ≤ y))

abbrev pub Alike : ℕ → List ℕ → List ℕ → Type 0
Alike t [] [] = Unit {0}
Alike t [] (y ∷ ys) = ⊥
Alike t (x ∷ xs) [] = ⊥
Alike t (x ∷ xs) (y ∷ ys) = AlikeAt t x y × Alike t xs ys

pub count_from-alike : (t : ℕ) (xs ys : List ℕ) → Alike t xs ys → count_from t xs ≡ count_from t ys
count_from-alike t [] [] h = refl
count_from-alike t (x ∷ xs) (y ∷ ys) h = grind (arith, nat_tests, count_from-alike t xs ys h.1)
count_from-alike t xs ys h = absurd h

-- an earlier list of squares is an earlier choice
pub choice-rises : (t from : ℕ) (xs ys : List ℕ) → Alike t xs ys → count t xs ≡ count t ys
    → Precedes (layer_squares t from xs) (layer_squares t from ys) → choice t xs < choice t ys
choice-rises t from [] [] h e p = absurd p
choice-rises t from (x ∷ xs) (y ∷ ys) h e p =
    let none = none_from_later t from (suc from) xs (layer_squares t (suc from) ys) in
    grind (arith, nat_tests, choice-rises t (suc from) xs ys h.1, count_from-alike t xs ys h.1, choice-below t xs, none, with_first-suc)
choice-rises t from xs ys h e p = absurd h

further : (t x y : ℕ) → AlikeAt t x y → (x ≡ t → ⊥) → (y ≡ t → ⊥) → AlikeAt (suc t) x y
further t x y h nx ny = grind (arith)

-- the same squares: the layers are alike one layer further
pub Alike-next : (t from : ℕ) (xs ys : List ℕ) → Alike t xs ys → layer_squares t from xs ≡ layer_squares t from ys → Alike (suc t) xs ys
Alike-next t from [] [] h e = tt
Alike-next t from (x ∷ xs) (y ∷ ys) h e = grind (arith, nat_tests, Alike-next t (suc from) xs ys h.1, further t x y h.0, unlike_from_later)
Alike-next t from xs ys h e = absurd h
