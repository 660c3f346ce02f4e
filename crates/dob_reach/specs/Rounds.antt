-- What is marked before a round, and what a round marks, of any steps among numbers.
use Rattle.std.specs.Prelude.{◌≡◌, ◌⊎◌, ℕ, ◌<◌, ◌≤◌, ◌+◌, List, AllPairs, Contains}
use Rattle.dob_reach.specs.Distances.{IsAway, Met, StepFrom}
use Rattle.dob_reach.specs.Marks.{IsMarked, KeepsMarks}

-- the number has a lesser distance
abbrev pub IsNearer : (ℕ → ℕ → Type 0) → ℕ → ℕ → ℕ → Type 0
IsNearer Steps from distance number = (n : ℕ) × (n < distance) × IsAway Steps from n number

-- Of any steps among numbers: the marked ones are those that are met within a distance, the front has those at that distance, and
-- all others that are marked lead to none that isn't.
pub record IsMarkedWithin (Steps : ℕ → ℕ → Type 0) (from distance : ℕ) (words front : List ℕ) : Type 0 where
  pub sound : (number : ℕ) → IsMarked words number → IsNearer Steps from (distance + 1) number
  pub whole : (n number : ℕ) → n ≤ distance → Met Steps n from number → IsMarked words number
  pub front_sound : (number : ℕ) → Contains front number → IsAway Steps from distance number
  pub front_whole : (number : ℕ) → IsAway Steps from distance number → Contains front number
  pub front_once : AllPairs (λ (a b : ℕ). ¬ (a ≡ b)) front
  pub closed : (number other : ℕ) → IsMarked words number → (¬ Contains front number) → Steps number other → IsMarked words other

-- Of what the numbers of the front lead to, that which wasn't marked before is marked and listed, each number once.
pub record AreMet (Steps : ℕ → ℕ → Type 0) (before words front next : List ℕ) : Type 0 where
  pub keeps : KeepsMarks before words
  pub marked : (number : ℕ) → IsMarked words number → IsMarked before number ⊎ Contains next number
  pub fresh : (number : ℕ) → Contains next number → ¬ IsMarked before number
  pub listed : (number : ℕ) → Contains next number → IsMarked words number × StepFrom Steps front number
  pub whole : (number : ℕ) → StepFrom Steps front number → IsMarked words number
  pub once : AllPairs (λ (a b : ℕ). ¬ (a ≡ b)) next
