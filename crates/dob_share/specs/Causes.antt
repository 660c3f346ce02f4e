-- What each cause is called, and which fault of a share is which cause.
use Rattle.std.specs.Prelude.{List, ◌++◌, ℕ, codes}
use Rattle.std.specs.Fmt.{decimal}
use Rattle.dob_pieces.specs.Faults.{memory_text}
use Rattle.dob_share.specs.Faults as share_texts
use Rattle.dob_share.specs.declared.fault.Fault.{Fault as ShareFault}
use Rattle.dob_share.specs.declared.fault.Fault.TheVariants as share
use Rattle.dob_share.specs.declared.cause.Cause.{Cause}
use Rattle.dob_share.specs.declared.cause.Cause.TheVariants as cause

-- the cause's number, where it has one, and its name
abbrev pub cause_text : Cause → List ℕ
cause_text cause.TooDeep = share_texts.fault_text share.TooDeep
cause_text (cause.Contradiction class) = share_texts.fault_text (share.Contradiction class)
cause_text cause.Memory = memory_text
cause_text cause.Held = codes "Held"
cause_text cause.Counts = codes "Counts"

-- of a node that has stopped
abbrev pub stopped_text : ℕ → Cause → List ℕ
stopped_text node why = codes "E14 Stopped node " ++ decimal node ++ codes ": " ++ cause_text why

-- a fault of a share, as a node's
abbrev pub cause_of_share : ShareFault → Cause
cause_of_share share.TooDeep = cause.TooDeep
cause_of_share (share.Contradiction class) = cause.Contradiction class
