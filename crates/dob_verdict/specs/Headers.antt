-- What the program owes where it is asked what the header of a file says, a table's or a certificate's.
use Rattle.std.specs.Prelude.{◌≡◌, ◌+◌, ◌⊎◌, ℕ, Bool, true, false, List, [], ◌∷◌, ◌++◌, Err, Ok, bytes_eq, codes, take}
use Rattle.std.specs.Fmt.{decimal}
use Rattle.dob_pieces.specs.Bytes.{line_feed}
use Rattle.dob_pieces.specs.Sets.{set_text}
use Rattle.dob_pieces.specs.declared.profile.Family.{Family}
use Rattle.dob_pieces.specs.declared.profile.Profile.{Profile}
use Rattle.dob_pieces.specs.declared.profile.Profile.TheVariants.{A, B}
use Rattle.dob_pieces.specs.declared.setup.Setup.{Setup}
use Rattle.dob_text.specs.PositionText.{text_of}
use Rattle.dob_rank.specs.Families.{RepresentsClass, classes_of}
use Rattle.dob_dbfile.specs.declared.fault.Fault as file
use Rattle.dob_dbfile.specs.declared.fault.Fault.TheVariants as file_fault
use Rattle.dob_dbfile.specs.declared.header.Format.{Format}
use Rattle.dob_dbfile.specs.declared.header.Format.TheVariants.{First, Second}
use Rattle.dob_dbfile.specs.Faults.{CountsClasses}
use Rattle.dob_dbfile.specs.Looking.{HasFrontFault}
use Rattle.dob_device.specs.Devices.{Stream, whole}
use Rattle.dob_certfile.specs.declared.defect.Defect.{Defect as AnyDefect}
use Rattle.dob_certfile.specs.Format.{certificate_title}
use Rattle.dob_certfile.specs.Reading.{FrontContent, front_at}
use Rattle.dob_files.specs.declared.certificate_fault.CertificateFault.TheVariants.{Defect}
use Rattle.dob_files.specs.declared.fault.ProgramFault.{ProgramFault}
use Rattle.dob_files.specs.declared.fault.ProgramFault.TheVariants.{File, Certificate, Memory, Io}
use Rattle.dob_files.specs.Owed.{Owed, file_owed}
use Rattle.dob_files.specs.Tables.{IsShut}
use Rattle.dob_verdict.specs.Certificates.{claim_text}

-- ---- what a header says
pub data Header : Type 0 where
  -- a table, in that format and of that family
  of_table : Format → Family → Header
  -- a certificate: what stands before its entries, and the position of the claim
  of_certificate : FrontContent → Setup → Header

-- the bytes are to be a certificate's; others are to be a table's
abbrev pub is_certificate : List ℕ → Bool
is_certificate bytes = bytes_eq (take 8 bytes) certificate_title

-- the header of bytes that come from a file's first one on says that: of a certificate it is the first 28
abbrev pub IsHeaderOf : List ℕ → Header → Type 0
IsHeaderOf bytes (of_table format family) = (is_certificate bytes ≡ false) × CountsClasses format family bytes
IsHeaderOf bytes (of_certificate front position) =
    (is_certificate bytes ≡ true) × (front_at (take 28 bytes) ≡ Ok front) × RepresentsClass front.family position front.root

-- ---- how it is told
abbrev pub rules_name : Profile → List ℕ
rules_name A = codes "A"
rules_name B = codes "B"

abbrev pub format_number : Format → ℕ
format_number First = 1
format_number Second = 2

-- four lines each, as `set 222`, `rules A`, `format 2` and `classes 588021930`
abbrev pub table_lines : List ℕ → List ℕ → ℕ → ℕ → List ℕ
table_lines set rules format classes =
    codes "set " ++ (set ++ (line_feed ∷ (codes "rules " ++ (rules ++ (line_feed ∷ (codes "format " ++ (decimal format ++ (line_feed ∷ (codes "classes "
    ++ (decimal classes ++ line_feed ∷ []))))))))))

abbrev pub certificate_lines : List ℕ → List ℕ → List ℕ → ℕ → List ℕ
certificate_lines position claim rules entries =
    codes "position " ++ (position ++ (line_feed ∷ (codes "claim " ++ (claim ++ (line_feed ∷ (codes "rules " ++ (rules ++ (line_feed ∷ (codes "entries "
    ++ (decimal entries ++ line_feed ∷ []))))))))))

-- the same as a JSON object
abbrev pub table_object : List ℕ → List ℕ → ℕ → ℕ → List ℕ
table_object set rules format classes =
    codes "{\"set\":\"" ++ (set ++ (codes "\",\"rules\":\"" ++ (rules ++ (codes "\",\"format\":" ++ (decimal format ++ (codes ",\"classes\":"
    ++ (decimal classes ++ (codes "}" ++ line_feed ∷ []))))))))

abbrev pub certificate_object : List ℕ → List ℕ → List ℕ → ℕ → List ℕ
certificate_object position claim rules entries =
    codes "{\"position\":\"" ++ (position ++ (codes "\",\"claim\":\"" ++ (claim ++ (codes "\",\"rules\":\"" ++ (rules ++ (codes "\",\"entries\":"
    ++ (decimal entries ++ (codes "}" ++ line_feed ∷ []))))))))

abbrev pub table_told : Bool → List ℕ → List ℕ → ℕ → ℕ → List ℕ
table_told true = table_object
table_told false = table_lines

abbrev pub certificate_told : Bool → List ℕ → List ℕ → List ℕ → ℕ → List ℕ
certificate_told true = certificate_object
certificate_told false = certificate_lines

-- the entries of both lists are counted together
abbrev pub header_told : Bool → Header → List ℕ
header_told is_object (of_table format family) =
    table_told is_object (set_text family.set) (rules_name family.profile) (format_number format) (classes_of family)
header_told is_object (of_certificate front position) =
    certificate_told is_object (text_of position) (claim_text front.claim) (rules_name front.family.profile) (front.lost_count + front.held_count)

-- ---- of a file; Has says which bytes it has, where that is known

-- the lines tell what the header of these bytes says
abbrev pub AreInfoLines : (List ℕ → Type 0) → Bool → List ℕ → Type 0
AreInfoLines Has is_object lines =
    (header : Header) × ((bytes : List ℕ) → Has bytes → IsHeaderOf bytes header) × (lines ≡ header_told is_object header)

-- what is wrong with the header of these bytes: the first fault that it has, by the tests of a certificate or of a table
abbrev pub IsTableFault : List ℕ → file.Fault → Type 0
IsTableFault bytes fault = (fault ≡ file_fault.Memory) ⊎ ((is_certificate bytes ≡ false) × HasFrontFault (whole bytes) fault)

abbrev pub IsFrontDefect : List ℕ → AnyDefect → Type 0
IsFrontDefect bytes defect = (is_certificate bytes ≡ true) × (front_at (take 28 bytes) ≡ Err defect)

-- a fault of asking a file: its header's, or memory failed, or it couldn't be opened or read
abbrev pub IsInfoFault : (List ℕ → Type 0) → ProgramFault → Type 0
IsInfoFault Has (File fault) = (bytes : List ℕ) → Has bytes → IsTableFault bytes fault
IsInfoFault Has (Certificate (Defect defect)) = (bytes : List ℕ) → Has bytes → IsFrontDefect bytes defect
IsInfoFault Has Memory = Unit {0}
IsInfoFault Has Io = IsShut Has
IsInfoFault Has _ = ⊥

abbrev pub info_owed : List ℕ → Bool → Owed
info_owed file is_object = file_owed file (λ Has. AreInfoLines Has is_object) IsInfoFault

-- a fault of the bytes before the entries that were read of it
abbrev pub IsDefectOf : List ℕ → ProgramFault → Type 0
IsDefectOf front (Certificate (Defect defect)) = front_at front ≡ Err defect
IsDefectOf front _ = ⊥

abbrev pub IsFrontFault : (List ℕ → Type 0) → ProgramFault → Type 0
IsFrontFault Has (Certificate (Defect defect)) = (bytes : List ℕ) → Has bytes → front_at (take 28 bytes) ≡ Err defect
IsFrontFault Has Io = IsShut Has
IsFrontFault Has _ = ⊥

-- a source is to give these bytes from here on, and has them by their places
abbrev pub GivesAll : (Stream → Type 0) → (Stream → Type 0) → List ℕ → Type 0
GivesAll Gives Shows bytes = Gives (whole bytes) × Shows (whole bytes)

-- it is to give these bytes, which begin as a certificate or don't
abbrev pub Begins : Bool → (Stream → Type 0) → List ℕ → Type 0
Begins is Gives bytes = Gives (whole bytes) × (is_certificate bytes ≡ is)
