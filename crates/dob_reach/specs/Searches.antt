-- What is known before each round of a search.
use Rattle.std.specs.Prelude.{◌≡◌, ℕ, ◌<◌, ◌^◌, List, length, slice_index_or}
use Rattle.dob_pieces.specs.declared.profile.Family.{Family}
use Rattle.dob_rank.specs.Families.{classes_of}
use Rattle.dob_reach.specs.declared.search.Reached.{Reached}
use Rattle.dob_reach.specs.Counts.{HasJust}
use Rattle.dob_reach.specs.Distances.{IsAway}
use Rattle.dob_reach.specs.Leads.{IsOpen, Leads}
use Rattle.dob_reach.specs.Marks.{HasBits}
use Rattle.dob_reach.specs.Rounds.{IsMarkedWithin, IsNearer}

-- The classes at lesser distances than the front's are counted.
pub record IsSearched (family : Family) (from : ℕ) (reached : Reached) (front : List ℕ) : Type 0 where
  pub begins : from < classes_of family
  pub few : classes_of family < 2 ^ 31
  pub marks_are : IsMarkedWithin (Leads family) from (length reached.levels.items) reached.marks.words.items front
  pub all : HasJust (IsNearer (Leads family) from (length reached.levels.items)) reached.classes
  pub opens_are : HasJust (λ (class : ℕ). IsNearer (Leads family) from (length reached.levels.items) class × IsOpen family class) reached.opens
  pub levels_are : (distance : ℕ) → distance < length reached.levels.items →
      HasJust (IsAway (Leads family) from distance) (slice_index_or reached.levels.items distance 0)
  pub each : (distance : ℕ) → distance < length reached.levels.items → 0 < slice_index_or reached.levels.items distance 0
  pub first : length reached.levels.items ≡ 0 → 0 < length front
  pub bits : HasBits reached.marks.words.items (classes_of family)
