-- What each fault of a build of one node is called, and which cause of a stop is which fault.
use Rattle.std.specs.Prelude.{◌≡◌, List, ℕ}
use Rattle.dob_pieces.specs.Faults.{memory_text}
use Rattle.dob_share.specs.Faults as share_texts
use Rattle.dob_share.specs.declared.fault.Fault.TheVariants as share
use Rattle.dob_share.specs.declared.cause.Cause.{Cause}
use Rattle.dob_share.specs.declared.cause.Cause.TheVariants as cause
use Rattle.dob_reference.specs.declared.fault.Fault.{Fault}
use Rattle.dob_reference.specs.declared.fault.Fault.TheVariants.{TooDeep, Contradiction, Memory}

-- the fault's number and name
abbrev pub fault_text : Fault → List ℕ
fault_text TooDeep = share_texts.fault_text share.TooDeep
fault_text (Contradiction class) = share_texts.fault_text (share.Contradiction class)
fault_text Memory = memory_text

-- What stops the one node, as why there is no table: no gate holds it back, and it cuts no batches.
abbrev pub IsFaultOf : Cause → Fault → Type 0
IsFaultOf cause.TooDeep fault = fault ≡ TooDeep
IsFaultOf (cause.Contradiction class) fault = fault ≡ Contradiction class
IsFaultOf cause.Memory fault = fault ≡ Memory
IsFaultOf cause.Held fault = ⊥
IsFaultOf cause.Counts fault = ⊥
