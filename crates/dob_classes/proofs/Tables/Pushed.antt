-- A table with one entry more at its end: what each entry says by its place.
use Rattle.dob_classes.proofs.Common.{◌++◌, ◌+◌, ◌<◌, ◌∷◌, ◌≡◌, List, [], arith, inl, inr, length, slice_index_or, subst, sym, ℕ, cases_lt, get_or_append_left}
use Rattle.dob_classes.proofs.Common.{get_or_push}

pub each_pushed : {A : Type 0} (Holds : ℕ → A → Type 0) (xs news : List A) (x : A) (count : ℕ) → length xs ≡ count
    → ((k : ℕ) (other : A) → k < count → Holds k (slice_index_or xs k other)) → Holds count x → news ≡ xs ++ x ∷ []
    → (k : ℕ) (other : A) → k < count + 1 → Holds k (slice_index_or news k other)
each_pushed {A} Holds xs news x count long each last grown k other below =
    subst (λ (ys : List A). Holds k (slice_index_or ys k other)) (sym grown) (elim (cases_lt k count) [
      | inl earlier ↦ subst (Holds k) (sym (get_or_append_left xs (x ∷ []) other k (omega (arith, earlier, long)))) (each k other earlier)
      | inr later ↦
          let same : k ≡ count = omega (arith, below, later) in
          subst (λ (n : ℕ). Holds n (slice_index_or (xs ++ x ∷ []) n other)) (sym same) (subst (Holds count) (sym (get_or_push xs x other count long)) last)
    ])
