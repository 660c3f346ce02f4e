-- What each fault is called.
use Rattle.std.specs.Prelude.{List, ℕ, ◌++◌, codes}
use Rattle.std.specs.Fmt.{decimal}
use Rattle.dob_distance.specs.Faults as value_texts
use Rattle.dob_distance.specs.declared.fault.ValueFault.TheVariants as value
use Rattle.dob_share.specs.declared.fault.Fault.{Fault}
use Rattle.dob_share.specs.declared.fault.Fault.TheVariants.{TooDeep, Contradiction}

-- the fault's number and name
abbrev pub fault_text : Fault → List ℕ
fault_text TooDeep = value_texts.fault_text value.TooDeep
fault_text (Contradiction class) = codes "E13 Contradiction class " ++ decimal class
