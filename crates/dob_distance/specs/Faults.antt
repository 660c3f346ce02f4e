-- What each fault is called.
use Rattle.std.specs.Prelude.{List, ℕ, codes}
use Rattle.dob_pieces.specs.Faults.{memory_text}
use Rattle.dob_distance.specs.declared.fault.ValueFault.{ValueFault}
use Rattle.dob_distance.specs.declared.fault.ValueFault.TheVariants.{TooDeep, Memory}

-- the fault's number and name
abbrev pub fault_text : ValueFault → List ℕ
fault_text TooDeep = codes "E12 TooDeep"
fault_text Memory = memory_text
