-- Numbers in the order of a seed.
use Rattle.std.specs.Prelude.{◌≡◌, ℕ, ◌<◌, ◌≤◌, List, length, take, get_or, Contains, AllPairs}
use Rattle.dob_shuffle.specs.Shuffles.{IsShuffle, place_of}
use Rattle.dob_shuffle.specs.declared.shuffle.Shuffle.{Shuffle}

-- the list has the numbers below the count whose places are at least the first and below the next, each once, in the order of their places
pub record AreOfPlaces (place : ℕ → ℕ) (count first next : ℕ) (list : List ℕ) : Type 0 where
  pub sound : (n : ℕ) → Contains list n → (n < count) × (first ≤ place n) × (place n < next)
  pub whole : (n : ℕ) → n < count → first ≤ place n → place n < next → Contains list n
  pub ordered : AllPairs (λ a b. place a < place b) list

-- So many numbers are written: in the order of the seed those from one place on and before the next. Where they don't fill the room no number has a place
-- from the next on. What stands behind them is left.
pub record IsDrawn (seed count first next written : ℕ) (old new : List ℕ) : Type 0 where
  pub shuffle : Shuffle
  pub is : IsShuffle seed count shuffle
  pub few : written ≤ length new
  pub numbers : AreOfPlaces (place_of shuffle) count first next (take written new)
  pub all : written < length new → (n : ℕ) → n < count → place_of shuffle n < next
  pub others : (i e : ℕ) → written ≤ i → get_or new i e ≡ get_or old i e
