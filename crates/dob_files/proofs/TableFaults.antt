-- The faults of a table are those of the file that it was read from, and by the file of a value table what is told of it is right.
use Rattle.dob_files.proofs.Common.{◌≡◌, List, false, ℕ, Profile, Setup, ClassTable, IsValueTable, IsRefusal}
use Rattle.dob_files.proofs.Common.{FailsWhere, ShelfChange, ShelfFault, Answers, AnswersOver, Ending, fault_of_shelf, is_io}
use Rattle.dob_files.proofs.Common.{HasValueFile, IsFileOf, IsOpeningFault, IsPositionFault, IsShut, IsTextOf, ProgramFault, Table}
use Rattle.dob_dbfile.proofs.Written.{same_files}
use Rattle.dob_probe.specs.declared.fault.Fault as probing
use Rattle.dob_shelf.specs.declared.shelf.ShelfFault.TheVariants as shelf_fault
use Rattle.dob_files.specs.Owed.{AnswersOwed, OfTable, table_owed}
use Rattle.dob_files.specs.Tables.{IsRightFileOf}
use Rattle.std.proofs.Common.{arith}

module _ (Has : List ℕ → Type 0) (table : ClassTable) (file : IsFileOf Has table) where
  -- a position that the table refuses
  pub refusal_holds : (words : List ℕ) (position : Setup) (fault : probing.Fault) → IsTextOf words position
      → IsRefusal table.family position fault → IsPositionFault Has words (Table fault)
  refusal_holds words position fault named refused = (position, named, (table, file, refused))

-- where a file that a shelf has isn't opened for lack of memory alone, it isn't there where the cause is another one
pub is_shut : (Has : List ℕ → Type 0) → ((bytes : List ℕ) → Has bytes → shelf_fault.Failed ≡ shelf_fault.Memory) → IsShut Has
is_shut Has found bytes has = let never : shelf_fault.Failed ≡ shelf_fault.Memory = found bytes has in absurd (cc)

pub shelf_fault_holds : (Has : List ℕ → Type 0) (lower : ShelfFault) → ((bytes : List ℕ) → Has bytes → lower ≡ shelf_fault.Memory)
    → IsOpeningFault Has (fault_of_shelf lower)
shelf_fault_holds Has lower found = grind (arith, is_shut Has)

-- a fault of opening the file is one of asking for the position of a text
pub opening_fault_holds : (Has : List ℕ → Type 0) (words : List ℕ) (position : Setup) (fault : ProgramFault) → IsTextOf words position
    → IsOpeningFault Has fault → IsPositionFault Has words fault
opening_fault_holds Has words position fault named holds = grind arith

module _ (Has : List ℕ → Type 0) (profile : Profile) (file : HasValueFile Has profile) where
  -- the table that was read is the value table
  pub right_table : (table : ClassTable) → IsFileOf Has table → IsValueTable table.family table.values × (table.family.profile ≡ profile)
  right_table table is = rw (← same_files file.bytes file.table table file.right.table is.whole file.file (is.same file.bytes file.has)) (file.right, file.rules)

  -- so the file is one of a right table
  pub right_file : (table : ClassTable) → IsFileOf Has table → IsRightFileOf Has profile table
  right_file table is = let so = right_table table is in record { file = is; right = so.0; rules = so.1 }

-- where lines of one kind are of another one
answers_weaker : (A B : List ℕ → Type 0) (Holds : ProgramFault → Type 0) (e : Ending) → ((lines : List ℕ) → A lines → B lines)
    → Answers A Holds e → Answers B Holds e
answers_weaker A B Holds e weaker is = grind (arith, weaker)

-- the same over a shelf
pub over_weaker : (c : ShelfChange) (A B : List ℕ → Type 0) (Holds : ProgramFault → Type 0) (e : Ending) → ((lines : List ℕ) → A lines → B lines)
    → AnswersOver c A Holds e → AnswersOver c B Holds e
over_weaker c A B Holds e weaker =
    answers_weaker (λ lines. A lines × FailsWhere c false) (λ lines. B lines × FailsWhere c false) (λ fault. Holds fault × FailsWhere c (is_io fault)) e
    (λ lines told. (weaker lines told.0, told.1))

-- lines that are told of a value table's file are right
pub table_right : (file : List ℕ) (AreLines : ClassTable → List ℕ → Type 0) (Holds : (List ℕ → Type 0) → ProgramFault → Type 0) (c : ShelfChange) (e : Ending)
    → AnswersOwed (table_owed file AreLines Holds) c e → (table_owed file AreLines Holds).right c e
table_right file AreLines Holds c e answers = λ profile right.
    over_weaker c (OfTable (IsFileOf (c.before.has file)) AreLines) (OfTable (IsRightFileOf (c.before.has file) profile) AreLines) (Holds (c.before.has file)) e
    (λ lines told. record { table = told.table; is = right_file (c.before.has file) profile right told.table told.is; told = told.told })
    answers
