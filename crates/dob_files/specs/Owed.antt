-- What the program owes for an order that lines answer, as one record.
use Rattle.std.specs.Prelude.{ℕ, List, Result, String}
use Rattle.dob_pieces.specs.declared.profile.Profile.{Profile}
use Rattle.dob_value.specs.Follows.{ClassTable}
use Rattle.dob_files.specs.declared.fault.ProgramFault.{ProgramFault}
use Rattle.dob_files.specs.Endings.{AnswersOver, Ending, GivesLines}
use Rattle.dob_files.specs.Tables.{HasValueFile, IsFileOf, IsRightFileOf}
use Rattle.dob_shelf.specs.Shelves.{Files, Leaving, SameFiles, ShelfChange, ShelfState}

-- what is owed for an order
pub record Owed : Type 1 where
  -- which lines are printed, over a shelf that changes so
  pub lines : ShelfChange → List ℕ → Type 0
  -- or which fault holds
  pub faults : ShelfChange → ProgramFault → Type 0
  -- what the files keep of what they had
  pub keeps : Files → Files → Type 0
  -- what is right by the file of a value table, where the order names one
  pub right : ShelfChange → Ending → Type 0

-- a call over a shelf gives the lines or the fault
abbrev pub GivesOwed : {X S : Type 0} → Owed → (S → ShelfState) → S → S → Result (String X) ProgramFault → Type 0
GivesOwed owed state old new result = Leaving owed.keeps state old new (λ c. GivesLines c (owed.lines c) (owed.faults c) result)

-- the program prints them
abbrev pub AnswersOwed : Owed → ShelfChange → Ending → Type 0
AnswersOwed owed c = AnswersOver c (owed.lines c) (owed.faults c)

-- for an order that makes no file, and tells no value by one
abbrev pub lines_owed : (ShelfChange → List ℕ → Type 0) → (ShelfChange → ProgramFault → Type 0) → Owed
lines_owed AreLines Holds = record { lines = AreLines; faults = Holds; keeps = SameFiles; right = λ c e. Unit {0} }

-- the same of a file: Has says which bytes it has, where that is known
abbrev pub file_owed : List ℕ → ((List ℕ → Type 0) → List ℕ → Type 0) → ((List ℕ → Type 0) → ProgramFault → Type 0) → Owed
file_owed file AreLines Holds = lines_owed (λ c. AreLines (c.before.has file)) (λ c. Holds (c.before.has file))

-- ---- by a table's file

-- where this is the file of a value table, it is right by the rules of that table's profile
abbrev pub ByValueFile : ShelfChange → List ℕ → (Profile → Type 0) → Type 0
ByValueFile c file IsRight = (profile : Profile) → HasValueFile (c.before.has file) profile → IsRight profile

-- the lines are a table's of that kind
pub record OfTable (Is : ClassTable → Type 0) (AreLines : ClassTable → List ℕ → Type 0) (lines : List ℕ) : Type 0 where
  pub table : ClassTable
  pub is : Is table
  pub told : AreLines table lines

-- for an order that asks for lines of a file's table: where that is a value table, they are lines of it
abbrev pub table_owed : List ℕ → (ClassTable → List ℕ → Type 0) → ((List ℕ → Type 0) → ProgramFault → Type 0) → Owed
table_owed file AreLines Holds = record (file_owed file (λ Has. OfTable (IsFileOf Has) AreLines) Holds) {
  right = λ c e. ByValueFile c file
      (λ profile. AnswersOver c (OfTable (IsRightFileOf (c.before.has file) profile) AreLines) (Holds (c.before.has file)) e);
}
