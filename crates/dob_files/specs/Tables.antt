-- What the program owes where it is asked for something of a database file.
use Rattle.std.specs.Prelude.{◌≡◌, ◌⊎◌, ℕ, List}
use Rattle.dob_pieces.specs.declared.profile.Profile.TheVariants.{A}
use Rattle.dob_pieces.specs.declared.profile.Profile.{Profile}
use Rattle.dob_pieces.specs.declared.setup.Setup.{Setup}
use Rattle.dob_pieces.specs.Setups.{IsLegal}
use Rattle.dob_text.specs.PositionText.{Spells}
use Rattle.dob_text.specs.Faults as text
use Rattle.dob_value.specs.Follows.{ClassTable, IsTable, IsValueTable}
use Rattle.dob_dbfile.specs.declared.fault.Fault as file
use Rattle.dob_dbfile.specs.declared.fault.Fault.TheVariants as file_fault
use Rattle.dob_device.specs.Devices.{whole}
use Rattle.dob_dbfile.specs.Faults as reading
use Rattle.dob_dbfile.specs.Format.{IsFile}
use Rattle.dob_probe.specs.Faults.{IsRefusal}
use Rattle.dob_files.specs.declared.fault.ProgramFault.{ProgramFault}
use Rattle.dob_files.specs.declared.fault.ProgramFault.TheVariants.{Text, File, Table, Memory, Io}

-- ---- the file; Has says which bytes it has, where that is known

-- it is a table, and the file is one of it, in either format
pub record IsFileOf (Has : List ℕ → Type 0) (table : ClassTable) : Type 0 where
  pub whole : IsTable table.family table.values
  pub same : (bytes : List ℕ) → Has bytes → IsFile bytes table

-- the file is one of a value table by the rules of the profile
pub record HasValueFile (Has : List ℕ → Type 0) (profile : Profile) : Type 0 where
  pub table : ClassTable
  pub bytes : List ℕ
  pub right : IsValueTable table.family table.values
  pub rules : table.family.profile ≡ profile
  pub file : IsFile bytes table
  pub has : Has bytes

-- the fault is the first that the file has, or memory failed
abbrev pub HasFileFault : (List ℕ → Type 0) → file.Fault → Type 0
HasFileFault Has fault = (bytes : List ℕ) → Has bytes → (fault ≡ file_fault.Memory) ⊎ reading.HasReadFault (whole bytes) fault

-- the text is that of a position
abbrev pub IsTextOf : List ℕ → Setup → Type 0
IsTextOf words position = IsLegal position × Spells words position

-- what is asked: the file's table, and for that position, which the text names
abbrev pub AreAsked : (List ℕ → Type 0) → List ℕ → ClassTable → Setup → Type 0
AreAsked Has words table position = IsFileOf Has table × IsTextOf words position

-- it is the file's table, and the value table by the rules of the profile
pub record IsRightFileOf (Has : List ℕ → Type 0) (profile : Profile) (table : ClassTable) : Type 0 where
  pub file : IsFileOf Has table
  pub right : IsValueTable table.family table.values
  pub rules : table.family.profile ≡ profile

-- ---- faults

-- the file isn't there, or it couldn't be opened
abbrev pub IsShut : (List ℕ → Type 0) → Type 0
IsShut Has = (bytes : List ℕ) → ¬ Has bytes

-- a fault of opening the file: one that it has, or it couldn't be opened, or memory failed
abbrev pub IsOpeningFault : (List ℕ → Type 0) → ProgramFault → Type 0
IsOpeningFault Has (File fault) = HasFileFault Has fault
IsOpeningFault Has Memory = Unit {0}
IsOpeningFault Has Io = IsShut Has
IsOpeningFault Has _ = ⊥

-- a fault of asking a file for a position: the file's, or the table's, E26 before E7; or memory failed, or the file couldn't be opened
abbrev pub IsProbingFault : (List ℕ → Type 0) → Setup → ProgramFault → Type 0
IsProbingFault Has position (File fault) = HasFileFault Has fault
IsProbingFault Has position (Table fault) = (table : ClassTable) × IsFileOf Has table × IsRefusal table.family position fault
IsProbingFault Has position Memory = Unit {0}
IsProbingFault Has position Io = IsShut Has
IsProbingFault Has position _ = ⊥

-- A fault of asking for the position of a text: the text's, or memory failed for the words; the file is asked only where the
-- text is a position's.
abbrev pub IsPositionFault : (List ℕ → Type 0) → List ℕ → ProgramFault → Type 0
IsPositionFault Has words (Text fault) = text.HasTextFault A words fault
IsPositionFault Has words Memory = Unit {0}
IsPositionFault Has words fault = (position : Setup) × IsTextOf words position × IsProbingFault Has position fault
