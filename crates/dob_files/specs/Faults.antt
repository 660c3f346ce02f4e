-- The program's faults as they are printed, and their exit statuses.
use Rattle.std.specs.Prelude.{ℕ, Bool, true, false, List, [], ◌∷◌, ◌++◌, codes}
use Rattle.dob_pieces.specs.Faults.{memory_text, set_fault_text}
use Rattle.dob_text.specs.Faults as position
use Rattle.dob_distance.specs.Faults as value_texts
use Rattle.dob_distance.specs.declared.fault.ValueFault.{ValueFault}
use Rattle.dob_distance.specs.declared.fault.ValueFault.TheVariants as value_fault
use Rattle.dob_dbfile.specs.FaultTexts as file
use Rattle.dob_dbfile.specs.Faults as reading
use Rattle.dob_dbfile.specs.declared.fault.Fault.{Fault as FileFault}
use Rattle.dob_dbfile.specs.declared.fault.Fault.TheVariants as file_fault
use Rattle.dob_share.specs.BuildFaults as run
use Rattle.dob_share.specs.declared.build_fault.BuildFault.TheVariants as run_fault
use Rattle.dob_probe.specs.Faults as table
use Rattle.dob_probe.specs.declared.fault.Fault.{Fault as TableFault}
use Rattle.dob_probe.specs.declared.fault.Fault.TheVariants as table_fault
use Rattle.dob_probe.specs.declared.gap.LookupFault.{LookupFault}
use Rattle.dob_probe.specs.declared.gap.LookupFault.TheVariants as gap
use Rattle.dob_pieces.specs.Bytes.{line_feed}
use Rattle.dob_shelf.specs.declared.shelf.ShelfFault as shelf
use Rattle.dob_shelf.specs.declared.shelf.ShelfFault.TheVariants as shelf_fault
use Rattle.dob_certificate.specs.Refusals as lists
use Rattle.dob_certificate.specs.declared.refusal.Refusal.{Refusal}
use Rattle.dob_certfile.specs.Faults as certificate_file
use Rattle.dob_certfile.specs.declared.defect.ReadFault.{ReadFault}
use Rattle.dob_certfile.specs.declared.defect.ReadFault.TheVariants as read_fault
use Rattle.dob_certfile.specs.declared.defect.WriteFault.TheVariants as write_fault
use Rattle.dob_files.specs.declared.certificate_fault.CertificateFault.{CertificateFault}
use Rattle.dob_files.specs.declared.certificate_fault.CertificateFault.TheVariants.{Defect, Unproved, TooMany, Unfit, Unlisted}
use Rattle.dob_files.specs.declared.fault.ProgramFault.{ProgramFault}
use Rattle.dob_files.specs.declared.fault.ProgramFault.TheVariants.{Text, SetText, TooDeep, Run, File, Table, PuzzlePlies, Certificate, Memory, Io}

abbrev pub certificate_fault_text : CertificateFault → List ℕ
certificate_fault_text (Defect defect) = certificate_file.defect_text defect
certificate_fault_text (Unproved refusal) = lists.fault_text refusal
certificate_fault_text (TooMany most) = lists.too_many_text most
certificate_fault_text Unfit = certificate_file.write_fault_text write_fault.Unfit
certificate_fault_text Unlisted = codes "E41 Unlisted"

abbrev pub fault_text : ProgramFault → List ℕ
fault_text (Text fault) = position.fault_text fault
fault_text SetText = set_fault_text
fault_text TooDeep = value_texts.fault_text value_fault.TooDeep
fault_text (Run fault) = run.fault_text fault
fault_text (File fault) = file.fault_text fault
fault_text (Table fault) = table.fault_text fault
fault_text PuzzlePlies = codes "--plies is an odd number of at least 3"
fault_text (Certificate fault) = certificate_fault_text fault
fault_text Memory = memory_text
fault_text Io = file.fault_text (file_fault.Io 0)

-- the line on standard error
abbrev pub fault_line : ProgramFault → List ℕ
fault_line fault = codes "dobutsu: " ++ fault_text fault ++ line_feed ∷ []

-- whether it is the fault of a device that failed
abbrev pub is_io : ProgramFault → Bool
is_io (File fault) = reading.is_io fault
is_io Io = true
is_io _ = false

-- 3 where a distance is above what a file says, 1 where the certificate is refused, or is none
abbrev pub status_of_certificate : CertificateFault → ℕ
status_of_certificate Unfit = 3
status_of_certificate _ = 1

-- 1 where what was asked is refused, 2 where the words make no sense, 3 where the program failed
abbrev pub status_of : ProgramFault → ℕ
status_of (Text _) = 1
status_of SetText = 1
status_of TooDeep = 3
status_of (Run (run_fault.Stopped node why)) = 3
status_of (Run run_fault.Memory) = 3
status_of (Run _) = 1
status_of (File file_fault.Memory) = 3
status_of (File (file_fault.Io _)) = 3
status_of (File _) = 1
status_of (Table table_fault.Memory) = 3
status_of (Table _) = 1
status_of PuzzlePlies = 2
status_of (Certificate fault) = status_of_certificate fault
status_of Memory = 3
status_of Io = 3

-- a fault of finding a value
abbrev pub fault_of_value : ValueFault → ProgramFault
fault_of_value value_fault.TooDeep = TooDeep
fault_of_value value_fault.Memory = Memory

-- a fault of opening or making a file
abbrev pub fault_of_shelf : shelf.ShelfFault → ProgramFault
fault_of_shelf shelf_fault.Memory = Memory
fault_of_shelf shelf_fault.Failed = Io

-- a fault of asking the records of a file
abbrev pub fault_of_records : LookupFault FileFault → ProgramFault
fault_of_records (gap.NoValue fault) = File fault
fault_of_records (gap.Inconsistent class) = Table (table_fault.Inconsistent class)
fault_of_records gap.Memory = Memory

-- a fault of asking a table
abbrev pub fault_of_table : LookupFault TableFault → ProgramFault
fault_of_table (gap.NoValue fault) = Table fault
fault_of_table (gap.Inconsistent class) = Table (table_fault.Inconsistent class)
fault_of_table gap.Memory = Memory

-- a fault of reading a certificate, of believing its lists
abbrev pub fault_of_reading : ReadFault → ProgramFault
fault_of_reading read_fault.Memory = Memory
fault_of_reading (read_fault.Defect defect) = Certificate (Defect defect)

abbrev pub fault_of_refusal : Refusal → ProgramFault
fault_of_refusal refusal = Certificate (Unproved refusal)
