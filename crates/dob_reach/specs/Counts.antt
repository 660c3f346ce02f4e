-- How many numbers have a property.
use Rattle.std.specs.Prelude.{◌≡◌, ℕ, ◌+◌, ◌⊎◌, List, [], ◌∷◌, length, AllPairs, Contains}

-- Just so many numbers have the property: a list of that length has each of them once, and no other.
pub record HasJust (P : ℕ → Type 0) (count : ℕ) : Type 0 where
  pub list : List ℕ
  pub sound : (number : ℕ) → Contains list number → P number
  pub whole : (number : ℕ) → P number → Contains list number
  pub once : AllPairs (λ (a b : ℕ). ¬ (a ≡ b)) list
  pub counted : length list ≡ count

-- so many items of the list have the property
abbrev pub Among : (ℕ → Type 0) → List ℕ → ℕ → Type 0
Among P [] count = count ≡ 0
Among P (number ∷ numbers) count = (P number × (more : ℕ) × (count ≡ more + 1) × Among P numbers more) ⊎ ((¬ P number) × Among P numbers count)
