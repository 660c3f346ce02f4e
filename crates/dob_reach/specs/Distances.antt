-- Which numbers a relation reaches from one of them, and in how many steps at least.
use Rattle.std.specs.Prelude.{◌≡◌, ℕ, zero, suc, ◌≤◌, List, Contains}

-- so many steps lead from the one to the other
abbrev pub Met : (ℕ → ℕ → Type 0) → ℕ → ℕ → ℕ → Type 0
Met Steps zero from number = from ≡ number
Met Steps (suc n) from number = (before : ℕ) × Met Steps n from before × Steps before number

-- some number of steps does
abbrev pub IsReached : (ℕ → ℕ → Type 0) → ℕ → ℕ → Type 0
IsReached Steps from number = (n : ℕ) × Met Steps n from number

-- and this is the least one that does
abbrev pub IsAway : (ℕ → ℕ → Type 0) → ℕ → ℕ → ℕ → Type 0
IsAway Steps from distance number = Met Steps distance from number × ((n : ℕ) → Met Steps n from number → distance ≤ n)

-- one of the numbers leads to the other by a step
abbrev pub StepFrom : (ℕ → ℕ → Type 0) → List ℕ → ℕ → Type 0
StepFrom Steps numbers other = (number : ℕ) × Contains numbers number × Steps number other
