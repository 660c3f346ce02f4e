-- What a search from a class finds.
use Rattle.std.specs.Prelude.{ℕ, ◌<◌, ◌↔◌, length, slice_index_or}
use Rattle.dob_pieces.specs.declared.profile.Family.{Family}
use Rattle.dob_rank.specs.Families.{classes_of}
use Rattle.dob_reach.specs.declared.search.Reached.{Reached}
use Rattle.dob_reach.specs.Counts.{HasJust}
use Rattle.dob_reach.specs.Distances.{IsAway, IsReached}
use Rattle.dob_reach.specs.Leads.{IsOpen, Leads}
use Rattle.dob_reach.specs.Marks.{HasBits, IsMarked}

-- How many classes are reached from the one, how many of them are open, and how many have which distance, up to the greatest, which some
-- have; and the marks of those that are reached.
pub record AreReachedFrom (family : Family) (from : ℕ) (reached : Reached) : Type 0 where
  pub all : HasJust (IsReached (Leads family) from) reached.classes
  pub opens_are : HasJust (λ (class : ℕ). IsReached (Leads family) from class × IsOpen family class) reached.opens
  pub levels_are : (distance : ℕ) → HasJust (IsAway (Leads family) from distance) (slice_index_or reached.levels.items distance 0)
  pub some : 0 < length reached.levels.items
  pub each : (distance : ℕ) → distance < length reached.levels.items → 0 < slice_index_or reached.levels.items distance 0
  pub marked : (class : ℕ) → IsMarked reached.marks.words.items class ↔ IsReached (Leads family) from class
  pub bits : HasBits reached.marks.words.items (classes_of family)
