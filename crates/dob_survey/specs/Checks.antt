-- What the program owes where it is asked whether a database file's table is the value table.
use Rattle.std.specs.Prelude.{◌++◌, ◌∷◌, ◌≡◌, List, [], codes, ℕ}
use Rattle.dob_files.specs.Owed.{Owed, file_owed}
use Rattle.dob_files.specs.Tables.{HasFileFault, IsFileOf, IsShut}
use Rattle.dob_files.specs.declared.fault.ProgramFault.{ProgramFault}
use Rattle.dob_files.specs.declared.fault.ProgramFault.TheVariants.{File, Io, Memory, Table}
use Rattle.dob_pieces.specs.Bytes.{line_feed}
use Rattle.dob_probe.specs.Checks.{IsFirstBroken}
use Rattle.dob_value.specs.Follows.{ClassTable, IsValueTable}
use Rattle.dob_probe.specs.declared.fault.Fault.TheVariants as table_fault

-- the line that says that a table is consistent
abbrev pub consistent_line : List ℕ
consistent_line = codes "consistent" ++ line_feed ∷ []

-- the lines say that the file's table is the value table
pub record IsCheckLine (Has : List ℕ → Type 0) (lines : List ℕ) : Type 0 where
  pub table : ClassTable
  pub file : IsFileOf Has table
  pub right : IsValueTable table.family table.values
  pub same : lines ≡ consistent_line

-- a fault of checking a file: the file's, or the table's, which takes no memory; or memory failed where the file is read, or it couldn't be opened
abbrev pub IsCheckFault : (List ℕ → Type 0) → ProgramFault → Type 0
IsCheckFault Has (File fault) = HasFileFault Has fault
IsCheckFault Has (Table (table_fault.Inconsistent class)) = (table : ClassTable) × IsFileOf Has table × IsFirstBroken table class
IsCheckFault Has Memory = Unit {0}
IsCheckFault Has Io = IsShut Has
IsCheckFault Has _ = ⊥

abbrev pub check_owed : List ℕ → Owed
check_owed file = file_owed file IsCheckLine IsCheckFault
