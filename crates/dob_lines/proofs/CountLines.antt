-- Lines of counts, one after the other.
use Rattle.dob_lines.proofs.Common.{◌++◌, ◌∙◌, ◌∷◌, ◌≡◌, IsTally, List, Tally, Value, [], ap, append_assoc, class_lines, codes, count_line, decimal}
use Rattle.dob_lines.proofs.Common.{length, refl, ℕ}

-- one after the other
pub two_lines : (a x rest : List ℕ) → a ++ (x ++ 10 ∷ rest) ≡ (a ++ (x ++ 10 ∷ [])) ++ rest
two_lines a x rest = simp append_assoc

pub three_lines : (a x b y rest : List ℕ) → a ++ (x ++ 10 ∷ (b ++ (y ++ 10 ∷ rest))) ≡ (a ++ (x ++ 10 ∷ [])) ++ ((b ++ (y ++ 10 ∷ [])) ++ rest)
three_lines a x b y rest = simp append_assoc

pub lines_told : (values : List Value) (tally : Tally) (classes : ℕ) → classes ≡ length values → IsTally values tally
    → codes "classes " ++ (decimal classes ++ 10 ∷ (codes "win " ++ (decimal tally.wins ++ 10 ∷ (codes "loss " ++ (decimal tally.losses ++ 10
    ∷ count_line (codes "draw ") tally.draws))))) ≡ class_lines values
lines_told values tally classes count is =
    ap (λ (l : List ℕ). codes "classes " ++ (decimal classes ++ 10 ∷ l))
    (three_lines (codes "win ") (decimal tally.wins) (codes "loss ") (decimal tally.losses) (count_line (codes "draw ") tally.draws))
    ∙ (two_lines (codes "classes ") (decimal classes) _ ∙ rw (count, is.wins, is.losses, is.draws) refl)
