-- The names are those that the faults have elsewhere.
use Rattle.dobutsu_c.proofs.Common.{◌≡◌, ℕ, TextFault, file_number, text_number, IsText, defect_number, name_of}
use Rattle.dob_text.specs.Faults as texts
use Rattle.dob_dbfile.specs.declared.fault.Fault.{Fault}
use Rattle.dob_dbfile.specs.FaultTexts as files
use Rattle.dob_certfile.specs.declared.defect.Defect.{Defect}
use Rattle.dob_certfile.specs.Faults.{defect_text}
use Rattle.dob_foreign.specs.declared.texts.DobutsuText.{DobutsuText}
use Rattle.std.proofs.Common.{arith}

of_text : (given : TextFault) → name_of (text_number given) ≡ texts.fault_text given
of_text given = grind arith

of_file : (given : Fault) → name_of (file_number given) ≡ files.fault_text given
of_file given = grind arith

of_defect : (given : Defect) → name_of (defect_number given) ≡ defect_text given
of_defect given = grind arith

pub text_name : (fault : ℕ) (told : DobutsuText) → IsText told (name_of fault) → (given : TextFault) → fault ≡ text_number given
    → IsText told (texts.fault_text given)
text_name fault told written given same = rw (same, of_text given) at written

pub file_name : (fault : ℕ) (told : DobutsuText) → IsText told (name_of fault) → (given : Fault) → fault ≡ file_number given
    → IsText told (files.fault_text given)
file_name fault told written given same = rw (same, of_file given) at written

pub defect_name : (fault : ℕ) (told : DobutsuText) → IsText told (name_of fault) → (given : Defect) → fault ≡ defect_number given
    → IsText told (defect_text given)
defect_name fault told written given same = rw (same, of_defect given) at written
