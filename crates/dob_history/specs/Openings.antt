-- What is known of each class before anything is settled.
use Rattle.std.specs.Prelude.{◌≡◌, ◌↔◌, ℕ, ◌<◌, List, length, Some, slice_get}
use Rattle.dob_pieces.specs.declared.profile.Family.{Family}
use Rattle.dob_pieces.specs.declared.profile.Profile.{Profile}
use Rattle.dob_pieces.specs.declared.setup.Setup.{Setup}
use Rattle.dob_moves.specs.MoveLists.{moves_of}
use Rattle.dob_moves.specs.Statuses.{HasStatus}
use Rattle.dob_rank.specs.Families.{classes_of}
use Rattle.dob_rank.specs.Families.{class_setup}
use Rattle.dob_share.specs.declared.opening.Opening.{Opening}
use Rattle.dob_share.specs.Owners.{class_of_place}

-- the position's status and number of moves
pub record IsOpening (profile : Profile) (p : Setup) (given : Opening) : Type 0 where
  pub status : HasStatus profile p given.status
  pub moves : given.moves ≡ length (moves_of profile p)

-- those of the representatives of the classes below a number, in their order
pub record AreOpeningsBelow (family : Family) (upto : ℕ) (openings : List Opening) : Type 0 where
  pub whole : length openings ≡ upto
  pub each : (class : ℕ) (given : Opening) → slice_get openings class ≡ Some given → IsOpening family.profile (class_setup family class) given

-- those of all classes
abbrev pub AreOpenings : Family → List Opening → Type 0
AreOpenings family openings = AreOpeningsBelow family (classes_of family) openings

-- those of the representatives of the first classes of owner `id` among n, in their order
abbrev pub AreOwnSoFar : Family → ℕ → ℕ → List Opening → Type 0
AreOwnSoFar family n id own = (place : ℕ) (given : Opening) → slice_get own place ≡ Some given →
    IsOpening family.profile (class_setup family (class_of_place n id place)) given

-- those of all its classes
pub record AreOwnOpenings (family : Family) (n id : ℕ) (own : List Opening) : Type 0 where
  pub places : (place : ℕ) → (place < length own) ↔ (class_of_place n id place < classes_of family)
  pub each : AreOwnSoFar family n id own
