-- What is read of a file by place: its header, and the record of one class.
use Rattle.std.specs.Prelude.{◌≡◌, ℕ, List, ◌+◌, ◌*◌, ◌<◌, true, false, length, take, drop, Some, slice_get}
use Rattle.byteorder.specs.Endian.{little_bytes}
use Rattle.dob_pieces.specs.declared.profile.Family.{Family}
use Rattle.dob_distance.specs.declared.value.Value.{Value}
use Rattle.dob_distance.specs.Codes.{code_of_value, IsEntry}
use Rattle.dob_value.specs.Follows.{ClassTable, IsTable}
use Rattle.dob_dbfile.specs.declared.fault.Fault.{Fault}
use Rattle.dob_dbfile.specs.declared.fault.Fault.TheVariants.{Truncated, Io}
use Rattle.dob_dbfile.specs.declared.header.Format.{Format}
use Rattle.dob_device.specs.Devices.{Stream, whole}
use Rattle.dob_dbfile.specs.Format.{IsFile}
use Rattle.dob_dbfile.specs.Faults.{CountsClasses, HasHeaderFault, IsHeaderShort, header_len}

-- the first test that fails of a stream of which only the header is read
abbrev pub HasFrontFault : Stream → Fault → Type 0
HasFrontFault stream Truncated = IsHeaderShort stream.bytes × (stream.fails ≡ false)
HasFrontFault stream (Io bytes) = IsHeaderShort stream.bytes × (stream.fails ≡ true) × (bytes ≡ length stream.bytes)
HasFrontFault stream fault = HasHeaderFault stream.bytes fault

-- how many bytes stand before the class's record
abbrev pub place_of : Format → ℕ → ℕ
place_of format class = header_len format + 2 * class

-- the class's record is the value's
pub record HasRecord (stream : Stream) (format : Format) (class : ℕ) (value : Value) : Type 0 where
  pub entry : IsEntry value
  pub same : take 2 (drop (place_of format class) stream.bytes) ≡ little_bytes 2 (code_of_value value)

-- the class's record isn't whole: the stream ends or fails before its last byte, after so many bytes or at its place
abbrev pub HasRecordFault : Stream → Format → ℕ → Fault → Type 0
HasRecordFault stream format class Truncated = (length stream.bytes < place_of format class + 2) × (stream.fails ≡ false)
HasRecordFault stream format class (Io bytes) = (length stream.bytes < place_of format class + 2) × (stream.fails ≡ true)
    × (bytes ≡ place_of format class + length (drop (place_of format class) stream.bytes))
HasRecordFault stream format class _ = ⊥

-- in a file of a table, read in the format and by the family that its header says, the record of a class is that of its value
abbrev pub RecordsAreEntries : Type 0
RecordsAreEntries = (table : ClassTable) (bytes : List ℕ) (format : Format) (family : Family) (class : ℕ) (value : Value)
    → IsTable table.family table.values → IsFile bytes table → CountsClasses format family bytes → class < length table.values
    → HasRecord (whole bytes) format class value → slice_get table.values class ≡ Some value
