-- How many of the classes that are reached have which value by a table, by the values' codes.
use Rattle.std.specs.Prelude.{◌≡◌, ℕ, ◌<◌, List, Some, length, slice_get, slice_index_or}
use Rattle.dob_pieces.specs.declared.profile.Family.{Family}
use Rattle.dob_distance.specs.Codes.{value_of_code}
use Rattle.dob_distance.specs.declared.value.Value.{Value}
use Rattle.dob_reach.specs.Counts.{HasJust}
use Rattle.dob_reach.specs.Distances.{IsReached}
use Rattle.dob_reach.specs.Leads.{Leads}

-- the values give the class the one that the code stands for
abbrev pub HasCode : List Value → ℕ → ℕ → Type 0
HasCode values code class = slice_get values class ≡ Some (value_of_code code)

-- of each code of 16 bits, how many classes of those that have the property have it
pub record AreCodesCounted (P : ℕ → Type 0) (values : List Value) (counts : List ℕ) : Type 0 where
  pub all : length counts ≡ 65536
  pub each : (code : ℕ) → code < 65536 → HasJust (λ (class : ℕ). P class × HasCode values code class) (slice_index_or counts code 0)

-- the same of what is reached from a class of the family
abbrev pub AreCodesCountedFrom : Family → ℕ → List Value → List ℕ → Type 0
AreCodesCountedFrom family from = AreCodesCounted (IsReached (Leads family) from)
