-- The faults of reading a file, of making the other one and of keeping it are those of migrating.
use Rattle.dob_survey.proofs.Common.{◌≡◌, AreMigrateLines, AreThese, Bool, ClassTable, ProgramFault, HasJust, IsFileOf, IsFillingFault, IsMigrateFault, IsTrue}
use Rattle.dob_survey.proofs.Common.{LeavesFiles, List, SameFiles, ShelfChange, ShelfState, String, codes, count_line, inl, inr, length, string_bytes, subst}
use Rattle.dob_survey.proofs.Common.{sym, ℕ}
use Rattle.dob_dbfile.specs.Format.{bytes_of as table_bytes}
use Rattle.dob_files.proofs.Kept.{AreKept, same_chain}

-- after the table was read and the other file made, which changed no file
pub keeping_migrates : (c : ShelfChange) (file : List ℕ) (mid : ShelfState) (table : ClassTable) → IsFileOf (c.before.has file) table
    → SameFiles c.before.has mid.has → (fault : ProgramFault) → LeavesFiles (record c { before = mid }) (IsFillingFault table) fault
    → IsMigrateFault c file fault
keeping_migrates c file mid table read same fault holds = (
  elim holds.0 [
    | inl unfilled ↦ inl (inr (table, read, unfilled))
    | inr unkept ↦ inr unkept
  ],
  same_chain c.before.has mid.has c.after.has same holds.1,
)

-- the lines and the file that was kept
pub migrate_lines : {X : Type 0} (c : ShelfChange) (file out : List ℕ) (mid : ShelfState) → mid.tells ≡ c.before.tells → (table : ClassTable)
    → IsFileOf (c.before.has file) table → (text : String X)
    → AreKept (AreThese (count_line (codes "classes ") (length table.values)) (table_bytes table)) out (record c { before = mid }) text
    → AreMigrateLines c file out (string_bytes text)
migrate_lines c file out mid told table read text is = record {
  table = table;
  read = read;
  kept = λ tells. subst (λ (bytes : List ℕ). HasJust out bytes c.after.has) is.1.1 (is.2 (subst (λ (b : Bool). IsTrue b) (sym told) tells));
  same = is.1.0;
}
