-- What stands where in a list, also after more things and after one was exchanged.
use Rattle.dob_pieces.proofs.Common.{◌++◌, ◌+◌, ◌<◌, ◌∙◌, ◌∷◌, ◌≡◌, ◌≢◌, ◌⊎◌, Contains, List, Some, [], ap, arith, get_or, inl, inr, length, refl, set, suc}
use Rattle.dob_pieces.proofs.Common.{sym, zero, ℕ, ⊎_elim, slice_get}
use Rattle.std.proofs.lemmas.Option.{slice_get-get_or}

-- something stands at each place
pub some_at : {A : Type 0} → (xs : List A) (k : ℕ) → k < length xs → (x : A) × (slice_get xs k ≡ Some x)
some_at [] k below = absurd (omega (arith, below))
some_at (x ∷ xs) zero below = (x, refl)
some_at (x ∷ xs) (suc k) below = some_at xs k (omega (arith, below))

-- what was read of a list stands there
pub read_there : {A : Type 0} → (xs : List A) (k : ℕ) (x : A) → k < length xs → x ≡ get_or xs k x → slice_get xs k ≡ Some x
read_there xs k x within is = slice_get-get_or xs k x within ∙ ap Some (sym is)

-- what a list contains stands somewhere in it
pub standing : {A : Type 0} → (xs : List A) (x : A) → Contains xs x → (k : ℕ) × (k < length xs) × (slice_get xs k ≡ Some x)
standing xs x there = (there.0, there.1, slice_get-get_or xs there.0 x there.1 ∙ ap Some there.2)

-- what stands at a place up to this one stands before it, or is what stands here
pub before_or_here : {A : Type 0} → (xs : List A) (upto k : ℕ) (here x : A) → slice_get xs upto ≡ Some here → slice_get xs k ≡ Some x → k < upto + 1 →
    (k < upto) ⊎ (x ≡ here)
before_or_here xs upto k here x at_upto at_k below = grind arith

-- what stands in a list with one thing more stood there before, or is that thing
pub at_end : {A : Type 0} → (l : List A) (a b : A) (j : ℕ) → slice_get (l ++ a ∷ []) j ≡ Some b → (slice_get l j ≡ Some b) ⊎ ((j ≡ length l) × (a ≡ b))
at_end [] a b zero e = inr (refl, (cc))
at_end [] a b (suc j) e = absurd (cc)
at_end (x ∷ xs) a b zero e = inl e
at_end (x ∷ xs) a b (suc j) e = ⊎_elim (λ l. inl l) (λ r. inr (ap suc r.0, r.1)) (at_end xs a b j e)

-- the thing between others
pub middle : {A : Type 0} → (before after : List A) (a : A) → slice_get (before ++ a ∷ after) (length before) ≡ Some a
middle [] after a = refl
middle (x ∷ xs) after a = middle xs after a

-- what stands in a list stands there with more behind it
pub get_front : {A : Type 0} → (l m : List A) (b : A) (j : ℕ) → slice_get l j ≡ Some b → slice_get (l ++ m) j ≡ Some b
get_front [] m b j e = absurd (cc)
get_front (x ∷ xs) m b zero e = e
get_front (x ∷ xs) m b (suc j) e = get_front xs m b j e

-- after one thing was exchanged: that one, and the others
pub get_set_same : {A : Type 0} → (xs : List A) (k : ℕ) (new : A) → k < length xs → slice_get (set xs k new) k ≡ Some new
get_set_same [] k new within = absurd (omega arith)
get_set_same (x ∷ xs) zero new within = refl
get_set_same (x ∷ xs) (suc k) new within = get_set_same xs k new (omega arith)

pub get_set_other : {A : Type 0} → (xs : List A) (k j : ℕ) (new : A) → j ≢ k → slice_get (set xs k new) j ≡ slice_get xs j
get_set_other [] k j new apart = refl
get_set_other (x ∷ xs) zero zero new apart = absurd (apart refl)
get_set_other (x ∷ xs) zero (suc j) new apart = refl
get_set_other (x ∷ xs) (suc k) zero new apart = refl
get_set_other (x ∷ xs) (suc k) (suc j) new apart = get_set_other xs k j new (λ same. apart (ap suc same))
