-- A list of values that are given for each class, with one more.
use Rattle.dob_value.proofs.Common.{◌++◌, ◌+◌, ◌∙◌, ◌∷◌, ◌≡◌, List, [], ap, inl, inr, subst, sym, ℕ, at_end, value_of_code, values_of_codes, AreGiven, Value}
use Rattle.std.proofs.lemmas.List.{length-append, map-append}

-- one value more
pub given_more : (Gives : ℕ → Value → Type 0) (class : ℕ) (codes new : List ℕ) (code : ℕ) (value : Value) → AreGiven Gives class (values_of_codes codes) →
    new ≡ codes ++ code ∷ [] → value_of_code code ≡ value → Gives class value → AreGiven Gives (class + 1) (values_of_codes new)
given_more Gives class codes new code value are is code_is gives = subst (λ xs. AreGiven Gives (class + 1) xs)
    (sym (ap (λ xs. values_of_codes xs) is ∙ map-append value_of_code codes (code ∷ []))) (record {
      whole = length-append (values_of_codes codes) (value_of_code code ∷ []) ∙ ap (λ (k : ℕ). k + 1) are.whole;
      each = λ k v at. elim (at_end (values_of_codes codes) (value_of_code code) v k at) [
        | inl before ↦ are.each k v before
        | inr last ↦ subst (λ (m : ℕ). Gives m v) (sym (last.0 ∙ are.whole)) (subst (λ w. Gives class w) (sym code_is ∙ last.1) gives)
      ];
    })
