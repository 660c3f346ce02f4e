-- What each fault is called.
use Rattle.std.specs.Prelude.{ℕ, List, codes}
use Rattle.dob_pieces.specs.Faults.{memory_text}
use Rattle.dob_dbfile.specs.FaultTexts as file
use Rattle.dob_dbfile.specs.declared.fault.Fault.TheVariants as file_fault
use Rattle.dob_certfile.specs.declared.defect.Defect.{Defect}
use Rattle.dob_certfile.specs.declared.defect.Defect.TheVariants.{Truncated, Magic, Version, SetByte, ProfileByte, RootClass, ClaimByte, EntryCount, EntryNumber, EntryOrder, EntryClass, EntryPlies, Trailing, Digest}
use Rattle.dob_certfile.specs.declared.defect.ReadFault.{ReadFault}
use Rattle.dob_certfile.specs.declared.defect.ReadFault.TheVariants as faults
use Rattle.dob_certfile.specs.declared.defect.WriteFault.{WriteFault}
use Rattle.dob_certfile.specs.declared.defect.WriteFault.TheVariants as write_faults

-- the defect's number and name
abbrev pub defect_text : Defect → List ℕ
defect_text Truncated = file.fault_text file_fault.Truncated
defect_text Magic = file.fault_text file_fault.Magic
defect_text Version = codes "E32 Version"
defect_text SetByte = file.fault_text file_fault.SetByte
defect_text ProfileByte = file.fault_text file_fault.ProfileByte
defect_text RootClass = codes "E33 RootClass"
defect_text ClaimByte = codes "E34 ClaimByte"
defect_text EntryCount = codes "E35 EntryCount"
defect_text EntryNumber = codes "E36 EntryNumber"
defect_text EntryOrder = codes "E37 EntryOrder"
defect_text EntryClass = codes "E38 EntryClass"
defect_text EntryPlies = codes "E42 EntryPlies"
defect_text Trailing = file.fault_text file_fault.Trailing
defect_text Digest = file.fault_text file_fault.Digest

abbrev pub read_fault_text : ReadFault → List ℕ
read_fault_text faults.Memory = memory_text
read_fault_text (faults.Defect defect) = defect_text defect

abbrev pub write_fault_text : WriteFault → List ℕ
write_fault_text write_faults.Memory = memory_text
write_fault_text write_faults.Unfit = codes "E40 Unfit"
write_fault_text (write_faults.Io bytes) = file.fault_text (file_fault.Io bytes)
