-- What each fault is called, and when it is given.
use Rattle.std.specs.Prelude.{List, ℕ, ◌++◌, MatchResult, codes, length}
use Rattle.std.specs.declared.result.Result.{Result}
use Rattle.std.specs.Fmt.{decimal}
use Rattle.dob_pieces.specs.Faults.{far_chick_text, memory_text}
use Rattle.dob_pieces.specs.Profiles.{IsAllowed}
use Rattle.dob_pieces.specs.declared.profile.Family.{Family}
use Rattle.dob_pieces.specs.declared.setup.Setup.{Setup}
use Rattle.dob_rank.specs.Families.{IsPositionOf}
use Rattle.dob_rank.specs.Order.{IsPositionOfSet}
use Rattle.dob_value.specs.Follows.{ClassTable}
use Rattle.dob_probe.specs.declared.fault.Fault.{Fault}
use Rattle.dob_probe.specs.declared.fault.Fault.TheVariants.{FarChick, OtherSet, Inconsistent, Memory}
use Rattle.dob_probe.specs.Lines.{BreaksAt}
use Rattle.dob_probe.specs.Checks.{AllFollow, IsFirstBreak}

-- the fault's number and name
abbrev pub fault_text : Fault → List ℕ
fault_text FarChick = far_chick_text
fault_text OtherSet = codes "E7 OtherSet"
fault_text (Inconsistent class) = codes "E21 Inconsistent class " ++ decimal class
fault_text Memory = memory_text

-- why a position isn't one of the family: its profile doesn't allow it; or it does, and the pieces aren't those of its set
abbrev pub IsRefusal : Family → Setup → Fault → Type 0
IsRefusal family p FarChick = ¬ IsAllowed family.profile p
IsRefusal family p OtherSet = IsAllowed family.profile p × ¬ IsPositionOfSet family.set p
IsRefusal family p (Inconsistent class) = ⊥
IsRefusal family p Memory = ⊥

-- a fault of a line: the position isn't one of the table's family, or the line breaks off at that class, or memory failed
abbrev pub IsFaultOfLine : ClassTable → Setup → Fault → Type 0
IsFaultOfLine table p (Inconsistent class) = IsPositionOf table.family p × BreaksAt table p class
IsFaultOfLine table p Memory = Unit {0}
IsFaultOfLine table p fault = IsRefusal table.family p fault

-- a fault of listing moves with their values: the position isn't one of the table's family, or memory failed
abbrev pub IsFaultOfMoves : ClassTable → Setup → Fault → Type 0
IsFaultOfMoves table p Memory = Unit {0}
IsFaultOfMoves table p fault = IsRefusal table.family p fault

-- a fault of checking the classes from one on up to an end: that one is the least whose value doesn't follow. No memory is taken, so `Memory` is never told.
abbrev pub IsFaultBetween : ClassTable → ℕ → ℕ → Fault → Type 0
IsFaultBetween table first end (Inconsistent class) = IsFirstBreak table first end class
IsFaultBetween table first end _ = ⊥

-- a fault of checking a table
abbrev pub IsFaultOfCheck : ClassTable → Fault → Type 0
IsFaultOfCheck table fault = IsFaultBetween table 0 (length table.values) fault

-- what is found of the classes from one on up to an end
abbrev pub IsVerdict : ClassTable → ℕ → ℕ → Result Unit Fault → Type 0
IsVerdict table first end result = MatchResult result (λ _. AllFollow table first end) (IsFaultBetween table first end)
