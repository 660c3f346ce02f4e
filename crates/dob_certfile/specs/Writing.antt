-- What a sink has of a file where writing stops.
use Rattle.std.specs.Prelude.{Bool, true, false}
use Rattle.dob_dbfile.specs.declared.fault.Fault.TheVariants as file_fault
use Rattle.dob_device.specs.Sinks.{Change, IsUntouched}
use Rattle.dob_dbfile.specs.Writing.{WriteStopsAt}
use Rattle.dob_certfile.specs.declared.defect.WriteFault.{WriteFault}
use Rattle.dob_certfile.specs.declared.defect.WriteFault.TheVariants.{Memory, Unfit, Io}
use Rattle.dob_certfile.specs.Format.{Content, Fits, bytes_of}

-- where no file says it nothing happens to a sink; else writing stops as that of the file's bytes does
abbrev pub IsUnwritten : Change → Content → WriteFault → Type 0
IsUnwritten change c Unfit = IsUntouched change × ¬ Fits c
IsUnwritten change c Memory = WriteStopsAt change (bytes_of c) file_fault.Memory
IsUnwritten change c (Io count) = WriteStopsAt change (bytes_of c) (file_fault.Io count)

-- whether it is the fault of a device that failed
abbrev pub is_io : WriteFault → Bool
is_io (Io bytes) = true
is_io _ = false
