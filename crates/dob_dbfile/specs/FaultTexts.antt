-- What each fault is called.
use Rattle.std.specs.Prelude.{ℕ, List, codes}
use Rattle.dob_pieces.specs.Faults.{memory_text}
use Rattle.dob_dbfile.specs.declared.fault.Fault.{Fault}
use Rattle.dob_dbfile.specs.declared.fault.Fault.TheVariants.{Truncated, Magic, SetByte, ClassCount, Trailing, Digest, Memory, Io, ProfileByte}

-- the fault's number and name
abbrev pub fault_text : Fault → List ℕ
fault_text Truncated = codes "E15 Truncated"
fault_text Magic = codes "E16 Magic"
fault_text SetByte = codes "E17 SetByte"
fault_text ClassCount = codes "E18 ClassCount"
fault_text Trailing = codes "E19 Trailing"
fault_text Digest = codes "E20 Digest"
fault_text Memory = memory_text
fault_text (Io bytes) = codes "E24 Io"
fault_text ProfileByte = codes "E27 ProfileByte"
