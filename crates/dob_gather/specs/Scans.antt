-- What is found of some of the classes, one after the other.
use Rattle.std.specs.Prelude.{◌≡◌, ℕ, ◌+◌, List, length, Some, slice_get}
use Rattle.dob_pieces.specs.declared.profile.Family.{Family}
use Rattle.dob_rank.specs.Families.{class_setup}
use Rattle.dob_share.specs.declared.opening.Opening.{Opening}
use Rattle.dob_history.specs.Openings.{IsOpening}

-- the items found of the classes from a number on, below another, in their order
pub record AreFrom {X : Type 0} (IsFound : ℕ → X → Type 0) (first upto : ℕ) (items : List X) : Type 0 where
  pub whole : first + length items ≡ upto
  pub each : (place : ℕ) (item : X) → slice_get items place ≡ Some item → IsFound (first + place) item

-- the openings of these classes
abbrev pub AreOpeningsFrom : Family → ℕ → ℕ → List Opening → Type 0
AreOpeningsFrom family first upto openings = AreFrom (λ class given. IsOpening family.profile (class_setup family class) given) first upto openings
