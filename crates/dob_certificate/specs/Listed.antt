-- The entry of a position's class.
use Rattle.std.specs.Prelude.{◌≡◌, ◌<◌, ℕ, List, Contains}
use Rattle.dob_pieces.specs.declared.profile.Family.{Family}
use Rattle.dob_pieces.specs.declared.setup.Setup.{Setup}
use Rattle.dob_rank.specs.Families.{IsInClass, IsRepresentative, class_setup, classes_of}
use Rattle.dob_certificate.specs.declared.entry.Entry.{Entry}

-- the entry stands in the list, and the position is in its class
pub record IsEntryFor (family : Family) (entries : List Entry) (q : Setup) (entry : Entry) : Type 0 where
  pub listed : Contains entries entry
  pub stands : IsInClass family q entry.class

-- the one entry for the position has so many plies
pub record HasPlies (family : Family) (entries : List Entry) (q : Setup) (plies : ℕ) : Type 0 where
  pub entry : Entry
  pub is : IsEntryFor family entries q entry
  pub plies_are : entry.plies ≡ plies
  pub alone : (other : Entry) → IsEntryFor family entries q other → entry ≡ other

-- the position is the representative of the entry's class, one of the family's, and the entry has so many plies
pub record IsEntryOf (family : Family) (entry : Entry) (p : Setup) (plies : ℕ) : Type 0 where
  pub within : entry.class < classes_of family
  pub represents : IsRepresentative family p
  pub setup : p ≡ class_setup family entry.class
  pub plies_are : entry.plies ≡ plies
