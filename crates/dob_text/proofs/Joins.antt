-- A text that is written piece by piece is its pieces, one after another.
use Rattle.dob_text.proofs.Common.{◌++◌, ◌+◌, ◌∙◌, ◌≡◌, List, ap, append_assoc, arith, map, ℕ, append-nil, concat, range_with_len}
use Rattle.std.proofs.lemmas.List.Folds.{concat-append}
use Rattle.std.proofs.lemmas.List.FromFn.{map-range_with_len_more}

-- three pieces
pub three : (t t₁ t₂ t₃ a b c : List ℕ) → t₁ ≡ t ++ a → t₂ ≡ t₁ ++ b → t₃ ≡ t₂ ++ c → t₃ ≡ t ++ (a ++ (b ++ c))
three t t₁ t₂ t₃ a b c h₁ h₂ h₃ = h₃ ∙ ap (λ x. x ++ c) (h₂ ∙ ap (λ x. x ++ b) h₁) ∙ simp append_assoc

-- four pieces
pub four : (t t₁ t₂ t₃ t₄ a b c d : List ℕ) → t₁ ≡ t ++ a → t₂ ≡ t₁ ++ b → t₃ ≡ t₂ ++ c → t₄ ≡ t₃ ++ d → t₄ ≡ t ++ (a ++ (b ++ (c ++ d)))
four t t₁ t₂ t₃ t₄ a b c d h₁ h₂ h₃ h₄ = h₄ ∙ ap (λ x. x ++ d) (h₃ ∙ ap (λ x. x ++ c) (h₂ ∙ ap (λ x. x ++ b) h₁)) ∙ simp append_assoc

-- four pieces after a text that is known
pub four_after : (s t t₁ t₂ t₃ t₄ a b c d : List ℕ) → t ≡ s → t₁ ≡ t ++ a → t₂ ≡ t₁ ++ b → t₃ ≡ t₂ ++ c → t₄ ≡ t₃ ++ d
    → t₄ ≡ s ++ (a ++ (b ++ (c ++ d)))
four_after s t t₁ t₂ t₃ t₄ a b c d start h₁ h₂ h₃ h₄ = rw (h₄, h₃, h₂, h₁, start) (simp append_assoc)

-- seven pieces, one after another
pub seven : (t t₁ t₂ t₃ t₄ t₅ t₆ t₇ a b c d e f g : List ℕ) → t₁ ≡ t ++ a → t₂ ≡ t₁ ++ b → t₃ ≡ t₂ ++ c → t₄ ≡ t₃ ++ d → t₅ ≡ t₄ ++ e
    → t₆ ≡ t₅ ++ f → t₇ ≡ t₆ ++ g → t₇ ≡ t ++ (a ++ (b ++ (c ++ (d ++ (e ++ (f ++ g))))))
seven t t₁ t₂ t₃ t₄ t₅ t₆ t₇ a b c d e f g h₁ h₂ h₃ h₄ h₅ h₆ h₇ = rw (h₇, h₆, h₅, h₄, h₃, h₂, h₁) (simp append_assoc)

-- the pieces of the numbers below k + 1 are those of the numbers below k, and that of k
numbered_more : (f : ℕ → List ℕ) (k : ℕ)
    → concat (map f (range_with_len 0 k)) ++ f k ≡ concat (map f (range_with_len 0 (k + 1)))
numbered_more f k = rw (map-range_with_len_more f 0 k k (omega arith)) (simp (concat-append, append-nil))

-- a text with the pieces of the numbers below k, and then with that of k
pub one_more : (f : ℕ → List ℕ) (k : ℕ) (t u v : List ℕ) → u ≡ t ++ concat (map f (range_with_len 0 k)) → v ≡ u ++ f k
    → v ≡ t ++ concat (map f (range_with_len 0 (k + 1)))
one_more f k t u v before last = rw (last, before, ← numbered_more f k) (simp append_assoc)
