-- What the functions that gather classes need, over plain values.
use Rattle.dob_unmove.proofs.Common.{◌∙◌, ◌≡◌, List, None, Option, Some, arith, inr, refl, subst, sym, true, true≢false, ℕ, MatchOption, is_some, mirrored}
use Rattle.dob_unmove.proofs.Common.{A, Setup, HasStatus, Open, Finds, ArePredecessors, CountEdges, HasEdges, IsNumbering}
use Rattle.std.specs.Prelude.{◌↔◌}
use Rattle.std.specs.List.Sorted.{IsPermutation, IsNonDecreasingBy}
use Rattle.std.proofs.lemmas.List.Sorted.{sum_by-IsPermutation, All-permutation}

-- the answer of the numbering, at the position before the move
pub finds_from : (Represents : Setup → ℕ → Type 0) (p s : Setup) (o : Option ℕ) → p ≡ s → HasStatus A p Open
    → MatchOption o (¬ ((class : ℕ) × Represents p class)) (Represents p) → Finds Represents s o
finds_from Represents p s None e has h = λ w. h (w.0, subst (λ (x : Setup). Represents x w.0) (sym e) w.1.0)
finds_from Represents p s (Some class) e has h = (subst (λ (x : Setup). Represents x class) e h, subst (λ (x : Setup). HasStatus A x Open) e has)

-- the mirror image is a representative exactly where it is the position itself
pub own_image : (Represents : Setup → ℕ → Type 0) (q image : Setup) (o : Option ℕ) → IsNumbering Represents
    → ((class : ℕ) × Represents q class) → image ≡ mirrored q
    → MatchOption o (¬ ((class : ℕ) × Represents image class)) (Represents image) → (is_some o ≡ true) ↔ (mirrored q ≡ q)
own_image Represents q image None n w e h =
    (λ some. absurd (true≢false (sym some)), λ own. absurd (h (w.0, subst (λ (x : Setup). Represents x w.0) (sym own ∙ sym e) w.1)))
own_image Represents q image (Some class) n w e h = (
  λ some. sym e ∙ n.one_represents image q class h (subst (Represents q) (n.one_number q image w.0 class w.1 h (inr e)) w.1),
  λ own. refl,
)

-- sorting keeps the counts
pub sorted_counts : (Represents : Setup → ℕ → Type 0) (q : Setup) (xs ys : List ℕ) → CountEdges A Represents q xs → IsPermutation xs ys
    → IsNonDecreasingBy (λ (x : ℕ). x) ys → ArePredecessors A Represents q ys
sorted_counts Represents q xs ys c moved rises = record {
  counts = record {
    known = All-permutation (λ (class : ℕ). (p : Setup) × Represents p class) xs ys moved c.known;
    edges = λ p class represents. subst (HasEdges A p q) (sym (sum_by-IsPermutation _ xs ys moved)) (c.edges p class represents);
  };
  ascending = λ i j d lt within. rises i j d (omega arith) within;
}
