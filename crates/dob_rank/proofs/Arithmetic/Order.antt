-- The lexicographic order of lists, part by part.
use Rattle.dob_rank.proofs.Common.{◌++◌, ◌∷◌, ◌≡◌, ◌⊎◌, List, [], arith, inl, inr, length, refl, ℕ, cases_order, Precedes, ◌<◌}

-- the one list is no later than the other
abbrev pub Upto : List ℕ → List ℕ → Type 0
Upto [] ys = Unit {0}
Upto (x ∷ xs) [] = ⊥
Upto (x ∷ xs) (y ∷ ys) = (x < y) ⊎ ((x ≡ y) × Upto xs ys)

pub Upto-from : (a b : List ℕ) → Precedes a b → Upto a b
Upto-from [] b p = tt
Upto-from (x ∷ a) [] p = absurd p
Upto-from (x ∷ a) (y ∷ b) p = grind (arith, Upto-from a b)

-- the first part of a list that is no later is earlier, or the first parts are the same and its rest is no later
pub Upto-split : (a b c d : List ℕ) → length a ≡ length b → Upto (a ++ c) (b ++ d) → Precedes a b ⊎ ((a ≡ b) × Upto c d)
Upto-split [] [] c d e p = inr (refl, p)
Upto-split (x ∷ a) (y ∷ b) c d e p = grind (arith, Upto-split a b c d)
Upto-split a b c d e p = absurd (omega arith)

-- other rests in the same order
pub Upto-rest : (a b c d c' d' : List ℕ) → length a ≡ length b → (Upto c d → Upto c' d') → Upto (a ++ c) (b ++ d) → Upto (a ++ c') (b ++ d')
Upto-rest [] [] c d c' d' e f p = f p
Upto-rest (x ∷ a) (y ∷ b) c d c' d' e f p = elim p [ inl lt ↦ inl lt | inr q ↦ inr (q.0, Upto-rest a b c d c' d' (omega arith) f q.1) ]
Upto-rest a b c d c' d' e f p = absurd (omega arith)

pub Precedes-irreflexive : (a : List ℕ) → Precedes a a → ⊥
Precedes-irreflexive [] p = p
Precedes-irreflexive (x ∷ a) p = grind (arith, Precedes-irreflexive a)

pub Precedes-or : (a b : List ℕ) → Precedes a b ⊎ Upto b a
Precedes-or a [] = inr tt
Precedes-or [] (y ∷ b) = inl tt
Precedes-or (x ∷ a) (y ∷ b) = grind (arith, Precedes-or a b, cases_order x y)
