-- What the records of a stream say of positions.
use Rattle.std.specs.Prelude.{ℕ, ◌<◌}
use Rattle.dob_pieces.specs.declared.profile.Family.{Family}
use Rattle.dob_pieces.specs.declared.setup.Setup.{Setup}
use Rattle.dob_rank.specs.Families.{IsInClass, classes_of}
use Rattle.dob_distance.specs.declared.value.Value.{Value}
use Rattle.dob_dbfile.specs.declared.fault.Fault.{Fault}
use Rattle.dob_dbfile.specs.declared.header.Format.{Format}
use Rattle.dob_device.specs.Devices.{Stream}
use Rattle.dob_dbfile.specs.Looking.{HasRecord, HasRecordFault}

-- the record of the position's class says that value, in a stream of that format and family
pub record IsRecorded (stream : Stream) (format : Format) (family : Family) (position : Setup) (value : Value) : Type 0 where
  pub class : ℕ
  pub number : IsInClass family position class
  pub below : class < classes_of family
  pub says : HasRecord stream format class value

-- the record of the position's class isn't whole
pub record LacksRecord (stream : Stream) (format : Format) (family : Family) (position : Setup) (fault : Fault) : Type 0 where
  pub class : ℕ
  pub number : IsInClass family position class
  pub below : class < classes_of family
  pub fails : HasRecordFault stream format class fault
