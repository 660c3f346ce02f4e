-- What the program owes where it is asked to write a database file anew, in the format of today.
use Rattle.std.specs.Prelude.{◌≡◌, ◌⊎◌, ℕ, IsTrue, List, codes, length}
use Rattle.dob_value.specs.Follows.{ClassTable}
use Rattle.dob_dbfile.specs.Format.{bytes_of}
use Rattle.dob_files.specs.declared.fault.ProgramFault.{ProgramFault}
use Rattle.dob_shelf.specs.Shelves.{HasJust, SameOthers, ShelfChange}
use Rattle.dob_lines.specs.Tallies.{count_line}
use Rattle.dob_files.specs.Keeping.{IsFillingFault, LeavesFiles}
use Rattle.dob_files.specs.Owed.{Owed, lines_owed}
use Rattle.dob_files.specs.Tables.{IsFileOf, IsOpeningFault}

-- The line says how many classes the table has that the file had before, and under the other name the shelf has just that table's file in
-- the second format, where it tells its bytes. The two names may be one.
pub record AreMigrateLines (c : ShelfChange) (file out lines : List ℕ) : Type 0 where
  pub table : ClassTable
  pub read : IsFileOf (c.before.has file) table
  pub kept : IsTrue c.before.tells → HasJust out (bytes_of table) c.after.has
  pub same : lines ≡ count_line (codes "classes ") (length table.values)

-- a fault of writing the file's table anew
abbrev pub IsRewritingFault : (List ℕ → Type 0) → ProgramFault → Type 0
IsRewritingFault Has fault = (table : ClassTable) × IsFileOf Has table × IsFillingFault table fault

-- The fault of migrating: the file couldn't be opened, or it has that fault, or its table isn't written, or the other one is neither made nor kept.
-- Each file has what it had.
abbrev pub IsMigrateFault : ShelfChange → List ℕ → ProgramFault → Type 0
IsMigrateFault c file = LeavesFiles c (λ fault. IsOpeningFault (c.before.has file) fault ⊎ IsRewritingFault (c.before.has file) fault)

abbrev pub migrate_owed : List ℕ → List ℕ → Owed
migrate_owed file out = record (lines_owed (λ c. AreMigrateLines c file out) (λ c. IsMigrateFault c file)) { keeps = SameOthers out }
