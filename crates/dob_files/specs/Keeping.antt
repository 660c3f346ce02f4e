-- Files that are filled and kept.
use Rattle.std.specs.Prelude.{◌≡◌, ◌≤◌, ℕ, IfErr, IfOk, IsTrue, List, ◌⊎◌, Option, Some, length}
use Rattle.std.specs.Prelude.{Err, Ok, Result, String, string_bytes}
use Rattle.dob_device.specs.Sinks.{Change, TakesPiece}
use Rattle.dob_value.specs.Follows.{ClassTable}
use Rattle.dob_dbfile.specs.declared.fault.Fault.TheVariants as file_fault
use Rattle.dob_dbfile.specs.Faults.{fails}
use Rattle.dob_dbfile.specs.Format.{bytes_of}
use Rattle.dob_files.specs.declared.fault.ProgramFault.{ProgramFault}
use Rattle.dob_files.specs.declared.fault.ProgramFault.TheVariants.{File, Memory, Io}
use Rattle.dob_shelf.specs.Shelves.{FailsWhere, HasJust, SameFiles, ShelfChange}
use Rattle.dob_files.specs.Endings.{GivesOver}
use Rattle.dob_files.specs.Faults.{is_io}

-- A sink that had received none so far was filled with just these bytes, and the lines to be told are these; or the fault holds. The sink failed
-- just where that is a device's.
pub record FillsSink {X : Type 0} (Fits : List ℕ → List ℕ → Type 0) (Holds : ProgramFault → Type 0) (filled : Result (String X) ProgramFault)
    (c : Change) : Type 0 where
  pub whole : IfOk filled (λ lines. (bytes : List ℕ) × Fits (string_bytes lines) bytes × TakesPiece c bytes)
  pub fault : IfErr filled Holds
  pub failed : c.after.has_failed ≡ fails is_io filled

-- the lines and the bytes are these
abbrev pub AreThese : List ℕ → List ℕ → List ℕ → List ℕ → Type 0
AreThese lines bytes told put = (told ≡ lines) × (put ≡ bytes)

-- a fault of writing a table's file: memory for its bytes was refused before any of them went out, or a write or the flush failed after so many
abbrev pub IsWritingFault : ClassTable → ProgramFault → Type 0
IsWritingFault table (File file_fault.Memory) = Unit {0}
IsWritingFault table (File (file_fault.Io count)) = count ≤ length (bytes_of table)
IsWritingFault table _ = ⊥

-- the same, or memory for the lines was refused
abbrev pub IsFillingFault : ClassTable → ProgramFault → Type 0
IsFillingFault table Memory = Unit {0}
IsFillingFault table fault = IsWritingFault table fault

-- a fault of making or keeping a file, by the shelf
abbrev pub IsShelfFault : ProgramFault → Type 0
IsShelfFault Memory = Unit {0}
IsShelfFault Io = Unit {0}
IsShelfFault _ = ⊥

-- The fault of a file that was to be filled, or one of the shelf; each file has what it had.
abbrev pub LeavesFiles : ShelfChange → (ProgramFault → Type 0) → ProgramFault → Type 0
LeavesFiles c Holds fault = (Holds fault ⊎ IsShelfFault fault) × SameFiles c.before.has c.after.has

-- What becomes of a sink that was to be filled for the name, and has received these bytes if they are known. Filled, it is kept and the lines are
-- told; or keeping it failed, and each file has what it had, as where it wasn't filled.
abbrev pub KeepsFilled : {X : Type 0} → List ℕ → Option (List ℕ) → Result (String X) ProgramFault → Result (String X) ProgramFault → ShelfChange → Type 0
KeepsFilled name received (Ok lines) result c =
    GivesOver c (λ told. (told ≡ lines) × ((bytes : List ℕ) → IsTrue c.before.tells → received ≡ Some bytes → HasJust name bytes c.after.has))
    (λ fault. IsShelfFault fault × SameFiles c.before.has c.after.has) result
KeepsFilled name received (Err fault) result c = (result ≡ Err fault) × SameFiles c.before.has c.after.has × FailsWhere c (is_io fault)
