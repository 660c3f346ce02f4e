-- What the program owes where it is asked for certificates: for one that it makes, and for what one proves.
use Rattle.std.specs.Prelude.{◌≡◌, ◌⊎◌, ℕ, Bool, IsTrue, List, [], ◌∷◌, ◌++◌, Option, codes, length, unwrap_or}
use Rattle.std.specs.Fmt.{decimal}
use Rattle.dob_pieces.specs.Bytes.{line_feed, space}
use Rattle.dob_pieces.specs.declared.profile.Family.{Family}
use Rattle.dob_pieces.specs.declared.profile.Profile.{Profile}
use Rattle.dob_pieces.specs.declared.profile.Profile.TheVariants.{A, B}
use Rattle.dob_pieces.specs.declared.setup.Setup.{Setup}
use Rattle.dob_text.specs.PositionText.{text_of}
use Rattle.dob_text.specs.Faults.{HasTextFault}
use Rattle.dob_rank.specs.Families.{IsInClass, RepresentsClass}
use Rattle.dob_distance.specs.declared.value.Value.TheVariants.{Win, Loss, Draw}
use Rattle.dob_value.specs.Follows.{ClassTable}
use Rattle.dob_probe.specs.Faults as by_table
use Rattle.dob_certificate.specs.declared.claim.Claim.{Claim}
use Rattle.dob_certificate.specs.declared.claim.Claim.TheVariants.{Exactly, LostWithin, WonWithin}
use Rattle.dob_certificate.specs.declared.refusal.Refusal.{Refusal}
use Rattle.dob_certificate.specs.Claims.{Holds, Prove}
use Rattle.dob_certificate.specs.Refusals as lists
use Rattle.dob_certfile.specs.Format.{Content, Fits, bytes_of}
use Rattle.dob_certfile.specs.Reading.{HasCertFault}
use Rattle.dob_certfile.specs.declared.defect.Defect.{Defect as AnyDefect}
use Rattle.dob_certify.specs.declared.fault.MakingFault.{MakingFault}
use Rattle.dob_certify.specs.declared.fault.MakingFault.TheVariants as making_fault
use Rattle.dob_certify.specs.declared.making.Certified.{Certified}
use Rattle.dob_certify.specs.Made.{IsMade}
use Rattle.dob_certify.specs.Faults.{IsTooMany, IsUnproved}
use Rattle.dob_files.specs.declared.certificate_fault.CertificateFault.TheVariants.{Defect, Unproved, TooMany, Unfit}
use Rattle.dob_files.specs.declared.fault.ProgramFault.{ProgramFault}
use Rattle.dob_files.specs.declared.fault.ProgramFault.TheVariants.{Text, File, Table, Certificate, Memory, Io}
use Rattle.dob_lines.specs.Tallies.{count_line}
use Rattle.dob_files.specs.Owed.{Owed, file_owed, lines_owed}
use Rattle.dob_files.specs.Tables.{HasFileFault, IsFileOf, IsShut, IsTextOf}
use Rattle.dob_shelf.specs.Shelves.{HasJust, SameFiles, SameOthers, ShelfChange}

-- a fault of making a certificate, as the program's
abbrev pub fault_of_making : MakingFault → ProgramFault
fault_of_making (making_fault.Table fault) = Table fault
fault_of_making (making_fault.Unproved refusal) = Certificate (Unproved refusal)
fault_of_making (making_fault.TooMany most) = Certificate (TooMany most)
fault_of_making making_fault.Memory = Memory

-- ---- lines

-- what is claimed, as `loss 78` or `loss within 78`
abbrev pub claim_text : Claim → List ℕ
claim_text (Exactly Draw) = codes "draw"
claim_text (Exactly (Win plies)) = codes "win " ++ decimal plies
claim_text (Exactly (Loss plies)) = codes "loss " ++ decimal plies
claim_text (WonWithin plies) = codes "win within " ++ decimal plies
claim_text (LostWithin plies) = codes "loss within " ++ decimal plies

-- the rules are said where they are B
abbrev pub rules_said : Profile → List ℕ
rules_said A = []
rules_said B = codes " by rules B"

-- the position, what is claimed of it, and by which rules
abbrev pub claim_line : Profile → Setup → Claim → List ℕ
claim_line profile p claim = text_of p ++ (space ∷ (claim_text claim ++ (rules_said profile ++ line_feed ∷ [])))

-- ---- the file of a certificate; Has says which bytes it has, where that is known

-- these are the bytes, or so many of them that their first fault is that of all
abbrev pub ReadsAs : List ℕ → List ℕ → Type 0
ReadsAs found bytes = (found ≡ bytes) ⊎ ((defect : AnyDefect) × HasCertFault found defect × HasCertFault bytes defect)

-- so they are of its bytes
abbrev pub AreBytes : (List ℕ → Type 0) → List ℕ → Type 0
AreBytes Has found = (bytes : List ℕ) → Has bytes → ReadsAs found bytes

-- the file says this
pub record IsCertificateFile (Has : List ℕ → Type 0) (said : Content) : Type 0 where
  pub fits : Fits said
  pub same : (bytes : List ℕ) → Has bytes → bytes ≡ bytes_of said

-- a fault of reading it: the first that its bytes have, or memory failed, or it couldn't be opened or read
abbrev pub IsReadingFault : (List ℕ → Type 0) → ProgramFault → Type 0
IsReadingFault Has (Certificate (Defect defect)) = (bytes : List ℕ) → Has bytes → HasCertFault bytes defect
IsReadingFault Has Memory = Unit {0}
IsReadingFault Has Io = IsShut Has
IsReadingFault Has _ = ⊥

-- ---- what a certificate proves

-- the line says what the lists prove of the representative of the root's class, and so what holds of it
pub record IsVerdict (said : Content) (line : List ℕ) : Type 0 where
  pub position : Setup
  pub represents : RepresentsClass said.family position said.root
  pub proved : Prove said.family said.lost said.held position said.claim
  pub holds : Holds said.family.profile position said.claim
  pub same : line ≡ claim_line said.family.profile position said.claim

-- the lists don't prove it
pub record IsDisproved (said : Content) (refusal : Refusal) : Type 0 where
  pub position : Setup
  pub represents : RepresentsClass said.family position said.root
  pub refused : lists.IsRefusal said.family said.lost said.held position said.claim refusal

abbrev pub IsVerdictFault : Content → ProgramFault → Type 0
IsVerdictFault said (Certificate (Unproved refusal)) = IsDisproved said refusal
IsVerdictFault said Memory = Unit {0}
IsVerdictFault said _ = ⊥

-- the line is the verdict on the certificate of the file
abbrev pub IsVerifyLine : (List ℕ → Type 0) → List ℕ → Type 0
IsVerifyLine Has line = (said : Content) × IsCertificateFile Has said × IsVerdict said line

-- a fault of verifying a file: one of reading it, or its lists don't prove what it claims
abbrev pub IsVerifyFault : (List ℕ → Type 0) → ProgramFault → Type 0
IsVerifyFault Has (Certificate (Unproved refusal)) = (said : Content) × IsCertificateFile Has said × IsDisproved said refusal
IsVerifyFault Has fault = IsReadingFault Has fault

-- ---- a certificate that is made

-- the greatest number of entries where none is given
abbrev pub most_entries : Option ℕ → ℕ
most_entries most = unwrap_or most 18446744073709551615

-- what its file says
abbrev pub said_of : Family → ℕ → Certified → Content
said_of family class made =
    record { family = family; root = class; claim = made.claim; lost = made.certificate.lost; held = made.certificate.held }

-- the lines say what is proved, and how many entries the lists have
abbrev pub made_lines : Setup → Content → List ℕ
made_lines p said = claim_line said.family.profile p said.claim ++ (count_line (codes "lost ") (length said.lost) ++ count_line (codes "held ") (length said.held))

-- a certificate that proves what the table says of the position, its value where that is asked for
pub record IsSaidOf (table : ClassTable) (is_exact : Bool) (most : ℕ) (position : Setup) (said : Content) : Type 0 where
  pub class : ℕ
  pub in_class : IsInClass table.family position class
  pub made : Certified
  pub is : IsMade table is_exact most position made
  pub holds : Holds table.family.profile position made.claim
  pub same : said ≡ said_of table.family class made

-- the same of the file's table
pub record IsMadeOf (Has : List ℕ → Type 0) (is_exact : Bool) (most : ℕ) (position : Setup) (said : Content) : Type 0 where
  pub table : ClassTable
  pub read : IsFileOf Has table
  pub is : IsSaidOf table is_exact most position said

-- the lines are those of such a certificate, and under the other name the shelf has just its file, where it tells its bytes
pub record AreCertifyLines (c : ShelfChange) (file out : List ℕ) (is_exact : Bool) (most : ℕ) (words lines : List ℕ) : Type 0 where
  pub position : Setup
  pub named : IsTextOf words position
  pub said : Content
  pub made : IsMadeOf (c.before.has file) is_exact most position said
  pub kept : IsTrue c.before.tells → HasJust out (bytes_of said) c.after.has
  pub same : lines ≡ made_lines position said

-- why no file says it: it can't, or memory failed
abbrev pub IsUnfit : Content → ProgramFault → Type 0
IsUnfit said (Certificate Unfit) = ¬ Fits said
IsUnfit said Memory = Unit {0}
IsUnfit said _ = ⊥

-- a fault of making a certificate of the position, in this order: the file's; E26 before E7; more entries than there may be; lists that don't prove the
-- claim; a file that can't say it
abbrev pub IsMakingFault : (List ℕ → Type 0) → Bool → ℕ → Setup → ProgramFault → Type 0
IsMakingFault Has is_exact most position (File fault) = HasFileFault Has fault
IsMakingFault Has is_exact most position (Table fault) = (table : ClassTable) × IsFileOf Has table × by_table.IsRefusal table.family position fault
IsMakingFault Has is_exact most position (Certificate (Unproved refusal)) =
    (table : ClassTable) × IsFileOf Has table × IsUnproved table is_exact position most refusal
IsMakingFault Has is_exact most position (Certificate (TooMany number)) =
    (table : ClassTable) × IsFileOf Has table × IsTooMany table position most number
IsMakingFault Has is_exact most position (Certificate Unfit) = (said : Content) × IsMadeOf Has is_exact most position said × ¬ Fits said
IsMakingFault Has is_exact most position _ = ⊥

-- the same by the table that was read; or memory was refused, or the other file isn't written
abbrev pub IsTableMakingFault : ClassTable → Bool → ℕ → Setup → ProgramFault → Type 0
IsTableMakingFault table is_exact most position (Table fault) = by_table.IsRefusal table.family position fault
IsTableMakingFault table is_exact most position (Certificate (Unproved refusal)) = IsUnproved table is_exact position most refusal
IsTableMakingFault table is_exact most position (Certificate (TooMany number)) = IsTooMany table position most number
IsTableMakingFault table is_exact most position (Certificate Unfit) = (said : Content) × IsSaidOf table is_exact most position said × ¬ Fits said
IsTableMakingFault table is_exact most position Memory = Unit {0}
IsTableMakingFault table is_exact most position Io = Unit {0}
IsTableMakingFault table is_exact most position _ = ⊥

-- such a certificate goes with the lines and the file's bytes
abbrev pub AreMade : ClassTable → Bool → ℕ → Setup → List ℕ → List ℕ → Type 0
AreMade table is_exact most position lines bytes =
    (said : Content) × IsSaidOf table is_exact most position said × (lines ≡ made_lines position said) × (bytes ≡ bytes_of said)

-- The fault of certifying, in this order: the text is no position's; the database file has a fault or couldn't be opened; the other one couldn't be made, which
-- shows before the work, or not be written or kept; making a certificate of the position failed. Or memory was refused. Each file has what it had.
abbrev pub IsCertifyFault : ShelfChange → List ℕ → Bool → ℕ → List ℕ → ProgramFault → Type 0
IsCertifyFault c file is_exact most words (Text fault) = HasTextFault A words fault × SameFiles c.before.has c.after.has
IsCertifyFault c file is_exact most words Memory = SameFiles c.before.has c.after.has
IsCertifyFault c file is_exact most words Io = (position : Setup) × IsTextOf words position
    × (IsShut (c.before.has file) ⊎ ((table : ClassTable) × IsFileOf (c.before.has file) table)) × SameFiles c.before.has c.after.has
IsCertifyFault c file is_exact most words fault = (position : Setup) × IsTextOf words position
    × IsMakingFault (c.before.has file) is_exact most position fault × SameFiles c.before.has c.after.has

-- ---- what the program owes
abbrev pub verify_owed : List ℕ → Owed
verify_owed file = file_owed file IsVerifyLine IsVerifyFault

abbrev pub certify_owed : List ℕ → List ℕ → Bool → ℕ → List ℕ → Owed
certify_owed file out is_exact most words =
    record (lines_owed (λ c. AreCertifyLines c file out is_exact most words) (λ c. IsCertifyFault c file is_exact most words)) { keeps = SameOthers out }
