-- What holds of all classes and ranks: the laws that src/laws.rt promises.
use Rattle.std.specs.Prelude.{◌≡◌, ℕ, ◌<◌, ◌↔◌}
use Rattle.dob_pieces.specs.declared.setup.Setup.{Setup}
use Rattle.dob_rank.specs.Order.{Before}
use Rattle.dob_pieces.specs.declared.profile.Family.{Family}
use Rattle.dob_rank.specs.Families.{IsPositionOf, HasRank, HasClasses, IsInClass, RepresentsClass, class_setup}

-- a position of a family has one class number
abbrev pub OneClass : Type 0
OneClass = (family : Family) (p : Setup) (a b : ℕ) → IsInClass family p a → IsInClass family p b → a ≡ b

-- a class number of a family has one representative
abbrev pub OneRepresentative : Type 0
OneRepresentative = (family : Family) (p q : Setup) (class : ℕ) → RepresentsClass family p class → RepresentsClass family q class → p ≡ q

-- the rank of an earlier position is the lower one
abbrev pub RanksKeepOrder : Type 0
RanksKeepOrder = (family : Family) (p q : Setup) (a b : ℕ) → IsPositionOf family p → IsPositionOf family q →
    HasRank family p a → HasRank family q b → (Before p q ↔ (a < b))

-- the class number of an earlier representative is the lower one
abbrev pub ClassesKeepOrder : Type 0
ClassesKeepOrder = (family : Family) (p q : Setup) (a b : ℕ) → RepresentsClass family p a → RepresentsClass family q b →
    (Before p q ↔ (a < b))

-- each class of a family's row stands there by its representative
abbrev pub RowsAreRepresentatives : Type 0
RowsAreRepresentatives = (family : Family) (class classes : ℕ) → HasClasses family classes → class < classes →
    RepresentsClass family (class_setup family class) class
