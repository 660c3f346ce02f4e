-- The positions of a family: how many there are, how many stand before one, and its classes. Which of the ranks of its set are its own.
use Rattle.std.specs.Prelude.{◌≡◌, ℕ, ◌&&◌, min, Bool}
use Rattle.dob_pieces.specs.declared.piece_set.PieceSet.{PieceSet}
use Rattle.dob_pieces.specs.declared.profile.Family.{Family}
use Rattle.dob_pieces.specs.declared.profile.Profile.{Profile}
use Rattle.dob_pieces.specs.declared.setup.Setup.{Setup}
use Rattle.dob_pieces.specs.Profiles.{is_allowed, IsAllowed}
use Rattle.dob_pieces.specs.Setups.{mirrored}
use Rattle.dob_rank.specs.Order.{IsPositionOfSet, Before, HasCount, IsFirstOfTwo, RepresentativeOf}
use Rattle.dob_rank.specs.Numbers.{size_of_set, rank_of_set, nth}
use Rattle.dob_rank.specs.Marks.{marks_below, is_first}
use Rattle.dob_rank.specs.ClassRows.{marked_place}

abbrev pub family_of : PieceSet → Profile → Family
family_of set profile = record { set = set; profile = profile }

-- a position of the family's set that its profile allows
pub record IsPositionOf (family : Family) (setup : Setup) : Type 0 where
  pub of_set : IsPositionOfSet family.set setup
  pub allowed : IsAllowed family.profile setup

-- the family has so many positions
abbrev pub HasSize : Family → ℕ → Type 0
HasSize family number = HasCount (IsPositionOf family) number

-- so many positions of the family stand before this one
abbrev pub HasRank : Family → Setup → ℕ → Type 0
HasRank family setup number = HasCount (λ (p : Setup). IsPositionOf family p × Before p setup) number

-- a representative of its class: a position of the family that is no later than its mirror image
abbrev pub IsRepresentative : Family → Setup → Type 0
IsRepresentative family setup = IsPositionOf family setup × IsFirstOfTwo setup

-- the family has so many classes
abbrev pub HasClasses : Family → ℕ → Type 0
HasClasses family number = HasCount (IsRepresentative family) number

-- so many representatives of the family stand before this one
abbrev pub HasClass : Family → Setup → ℕ → Type 0
HasClass family setup number = HasCount (λ (p : Setup). IsRepresentative family p × Before p setup) number

-- the setup is the representative of the class of the family with that number
abbrev pub RepresentsClass : Family → Setup → ℕ → Type 0
RepresentsClass family setup number = IsRepresentative family setup × HasClass family setup number

-- ---- the same by the ranks of the set

-- the setup of that rank is a position of the family
unfoldable pub is_present : Family → ℕ → Bool
is_present family r = is_allowed family.profile (nth family.set r)

-- and a representative
unfoldable pub is_marked : Family → ℕ → Bool
is_marked family r = is_present family r && is_first family.set r

-- how many positions the family has, how many of them stand before a setup, and how many classes it has
unfoldable pub size_of : Family → ℕ
size_of family = marks_below (is_present family) (size_of_set family.set)

unfoldable pub rank_of : Family → Setup → ℕ
rank_of family setup = marks_below (is_present family) (rank_of_set family.set setup)

unfoldable pub classes_of : Family → ℕ
classes_of family = marks_below (is_marked family) (size_of_set family.set)

-- a position of the family and its rank
pub record IsRanked (family : Family) (setup : Setup) (number : ℕ) : Type 0 where
  pub position : IsPositionOf family setup
  pub rank_is : rank_of family setup ≡ number
  pub count : HasRank family setup number

-- ---- classes

-- the position of the family is in the class of that number: so many representatives of the family stand before its own
pub record IsInClass (family : Family) (setup : Setup) (number : ℕ) : Type 0 where
  pub position : IsPositionOf family setup
  pub representative : Setup
  pub stands : RepresentativeOf setup representative
  pub before : HasClass family representative number

-- the number of the setup's class: the representatives below its rank or that of its mirror image, whichever is lower
unfoldable pub class_number : Family → Setup → ℕ
class_number family setup = marks_below (is_marked family) (min (rank_of_set family.set setup) (rank_of_set family.set (mirrored setup)))

-- the representative with so many representatives of the family before it
unfoldable pub class_setup : Family → ℕ → Setup
class_setup family class = nth family.set (marked_place (is_marked family) class (size_of_set family.set))
