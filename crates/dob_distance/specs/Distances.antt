-- Distances of values: that of one, the least loss among some, and the lesser and the greater of two.
use Rattle.std.specs.Prelude.{ℕ, ◌≤◌, min, max, List, Contains, Option, Some, None}
use Rattle.dob_distance.specs.declared.value.Value.{Value}
use Rattle.dob_distance.specs.declared.value.Value.TheVariants.{Win, Loss, Draw}

-- the distance of a value, which for a draw is 0
abbrev pub plies_of : Value → ℕ
plies_of (Win plies) = plies
plies_of (Loss plies) = plies
plies_of Draw = 0

-- the least loss that is among the values, where there is one
abbrev pub IsLeastLoss : List Value → Option ℕ → Type 0
IsLeastLoss values None = (plies : ℕ) → ¬ Contains values (Loss plies)
IsLeastLoss values (Some least) = Contains values (Loss least) × ((plies : ℕ) → Contains values (Loss plies) → least ≤ plies)

-- the lesser of a distance, where there is one, and another
abbrev pub lesser_of : Option ℕ → ℕ → ℕ
lesser_of None plies = plies
lesser_of (Some least) plies = min least plies

-- the greater of a distance, where there is one, and another
abbrev pub greater_of : Option ℕ → ℕ → ℕ
greater_of None plies = plies
greater_of (Some greatest) plies = max greatest plies
