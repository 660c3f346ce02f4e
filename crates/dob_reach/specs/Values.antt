-- How many of the classes that are reached have which value by a table.
use Rattle.std.specs.Prelude.{◌≡◌, ℕ, ◌+◌, List, Some, slice_get}
use Rattle.dob_pieces.specs.declared.profile.Family.{Family}
use Rattle.dob_distance.specs.declared.value.Value.{Value}
use Rattle.dob_distance.specs.declared.value.Value.TheVariants.{Win, Loss, Draw}
use Rattle.dob_reach.specs.declared.values.ByValue.{ByValue}
use Rattle.dob_reach.specs.Counts.{HasJust}
use Rattle.dob_reach.specs.Distances.{IsReached}
use Rattle.dob_reach.specs.Leads.{Leads}

-- the values give the class a win, a loss, a draw
abbrev pub IsWon : List Value → ℕ → Type 0
IsWon values class = (plies : ℕ) × (slice_get values class ≡ Some (Win plies))

abbrev pub IsLost : List Value → ℕ → Type 0
IsLost values class = (plies : ℕ) × (slice_get values class ≡ Some (Loss plies))

abbrev pub IsDrawn : List Value → ℕ → Type 0
IsDrawn values class = slice_get values class ≡ Some Draw

-- one class more, of that value
abbrev pub with_value : ByValue → Value → ByValue
with_value counts (Win plies) = record counts { win = counts.win + 1 }
with_value counts (Loss plies) = record counts { loss = counts.loss + 1 }
with_value counts Draw = record counts { draw = counts.draw + 1 }

-- how many classes of those that have the property are won, lost and drawn
pub record AreCounted (P : ℕ → Type 0) (values : List Value) (counts : ByValue) : Type 0 where
  pub won : HasJust (λ (class : ℕ). P class × IsWon values class) counts.win
  pub lost : HasJust (λ (class : ℕ). P class × IsLost values class) counts.loss
  pub drawn : HasJust (λ (class : ℕ). P class × IsDrawn values class) counts.draw

-- the same of what is reached from a class of the family
abbrev pub AreCountedFrom : Family → ℕ → List Value → ByValue → Type 0
AreCountedFrom family from = AreCounted (IsReached (Leads family) from)
