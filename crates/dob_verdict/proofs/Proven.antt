-- The faults of reading a certificate and of its lists are those of verifying it, of making one, and of asking one for a reply.
use Rattle.dob_verdict.proofs.Common.{◌||◌, ◌≡◌, ◌⊎◌, Bool, List, false, inl, inr, ℕ, Err, IfErr, IfOk, Ok, Result, String, Setup, Content, HasCertFault}
use Rattle.dob_verdict.proofs.Common.{FailsWhere}
use Rattle.dob_verdict.proofs.Common.{ShelfChange, ShelfFault, fault_of_shelf, is_io, IsTextOf, ProgramFault, Certificate, Memory, Text}
use Rattle.std.specs.Prelude.{string_bytes}
use Rattle.dob_certfile.specs.declared.defect.Defect.{Defect as AnyDefect}
use Rattle.dob_certfile.specs.declared.defect.ReadFault.{ReadFault}
use Rattle.dob_certfile.specs.declared.defect.ReadFault.TheVariants as reading
use Rattle.dob_files.specs.declared.certificate_fault.CertificateFault.TheVariants.{Defect, Unproved}
use Rattle.dob_verdict.specs.Certificates.{AreBytes, ReadsAs, IsCertificateFile, IsReadingFault, IsVerdict, IsVerdictFault, IsVerifyFault, IsVerifyLine}
use Rattle.dob_files.specs.Endings.{GivesLines}
use Rattle.dob_files.specs.Faults.{fault_of_reading}
use Rattle.dob_verdict.specs.Replying.{IsReplyFault, IsReplyFaultOf, IsReplyLine, IsToldReply}
use Rattle.dob_files.proofs.TableFaults.{is_shut}
use Rattle.dob_shelf.specs.declared.shelf.ShelfFault.TheVariants as shelf_fault
use Rattle.std.specs.Prelude.{take}
use Rattle.std.proofs.Common.{◌∙◌, ap, arith, sym}
use Rattle.dob_certfile.proofs.Files.{file_again}
use Rattle.dob_certfile.specs.Format.{Fits, bytes_of}
use Rattle.dob_certfile.specs.Reading.{file_at, front_at}
use Rattle.dob_verdict.specs.Headers.{IsDefectOf}
use Rattle.dob_verdict.proofs.Prefixes.{front_wrong}

-- ---- the file
defect_as : (found bytes : List ℕ) (d : AnyDefect) → ReadsAs found bytes → HasCertFault found d → HasCertFault bytes d
defect_as found bytes d (inl all) wrong = ap file_at (sym all) ∙ wrong
defect_as found bytes d (inr (other, first, of_all)) wrong = of_all ∙ (sym first ∙ wrong)

content_as : (found bytes : List ℕ) (said : Content) → Fits said → ReadsAs found bytes → found ≡ bytes_of said → bytes ≡ bytes_of said
content_as found bytes said fits (inl all) is = sym all ∙ is
content_as found bytes said fits (inr (other, first, of_all)) is = absurd (wrong (sym first ∙ (ap file_at is ∙ file_again said fits)))
  where
    wrong : Err other ≡ Ok said → ⊥
    wrong same = cc

module _ (Has : List ℕ → Type 0) where
  -- a file that a shelf has isn't read only for lack of memory
  pub shelf_bytes : (lower : ShelfFault) → ((bytes : List ℕ) → Has bytes → lower ≡ shelf_fault.Memory) → IsReadingFault Has (fault_of_shelf lower)
  shelf_bytes lower found = grind (arith, is_shut Has)

  -- what is wrong with the first bytes is wrong with the file
  pub front_reads : (front : List ℕ) → ((bytes : List ℕ) → Has bytes → front ≡ take 28 bytes) → (fault : ProgramFault) → IsDefectOf front fault
      → IsReadingFault Has fault
  front_reads front is (Certificate (Defect d)) holds = λ bytes has. front_wrong bytes d (ap front_at (sym (is bytes has)) ∙ holds)
  front_reads front is fault holds = absurd holds

  -- the defect of the bytes is the file's
  pub defect_read : (found : List ℕ) → AreBytes Has found → (given : ReadFault)
      → (given ≡ reading.Memory) ⊎ ((defect : AnyDefect) × (given ≡ reading.Defect defect) × HasCertFault found defect)
      → IsReadingFault Has (fault_of_reading given)
  defect_read found are given (inl none) = rw none tt
  defect_read found are given (inr (d, is, wrong)) = rw is (λ bytes has. defect_as found bytes d (are bytes has) wrong)

  -- what is read of the bytes is read of the file
  pub content_read : (found : List ℕ) → AreBytes Has found → (said : Content) → Fits said → found ≡ bytes_of said → IsCertificateFile Has said
  content_read found are said fits is = record { fits = fits; same = λ bytes has. content_as found bytes said fits (are bytes has) is }

  -- ---- verifying

  pub read_verifies : (fault : ProgramFault) → IsReadingFault Has fault → IsVerifyFault Has fault
  read_verifies fault holds = grind arith

  pub verdict_verifies : (said : Content) → IsCertificateFile Has said → (fault : ProgramFault) → IsVerdictFault said fault → IsVerifyFault Has fault
  verdict_verifies said is (Certificate (Unproved r)) holds = (said, is, holds)
  verdict_verifies said is Memory holds = tt
  verdict_verifies said is fault holds = absurd holds

-- a defect of a file is no device's
pub read_fails : (before after : Bool) (given : ReadFault) → after ≡ (before || false) → after ≡ (before || is_io (fault_of_reading given))
read_fails before after given failed = grind arith

verdict_fails : (said : Content) (before after : Bool) (fault : ProgramFault) → IsVerdictFault said fault → after ≡ (before || false)
    → after ≡ (before || is_io fault)
verdict_fails said before after fault holds failed = grind arith

-- what is given for a certificate is given for its file
pub verified : {X : Type 0} (c : ShelfChange) (file : List ℕ) (result : Result (String X) ProgramFault) (said : Content)
    → IsCertificateFile (c.before.has file) said
    → FailsWhere c false → IfOk result (λ line. IsVerdict said (string_bytes line)) → IfErr result (IsVerdictFault said)
    → GivesLines c (IsVerifyLine (c.before.has file)) (IsVerifyFault (c.before.has file)) result
verified c file (Ok line) said is failed ok err = ((said, is, ok), failed)
verified c file (Err fault) said is failed ok err =
    (verdict_verifies (c.before.has file) said is fault err, verdict_fails said c.before.has_failed c.after.has_failed fault err failed)

-- ---- asking for a reply
reply_fails : (said : Content) (p : Setup) (before after : Bool) (fault : ProgramFault) → IsReplyFault said p fault → after ≡ (before || false)
    → after ≡ (before || is_io fault)
reply_fails said p before after fault holds failed = grind arith

module _ (Has : List ℕ → Type 0) (words : List ℕ) (position : Setup) (named : IsTextOf words position) where
  pub read_replies : (fault : ProgramFault) → IsReadingFault Has fault → IsReplyFaultOf Has words fault
  read_replies fault holds = grind arith

  told_replies : (said : Content) → IsCertificateFile Has said → (fault : ProgramFault) → IsReplyFault said position fault → IsReplyFaultOf Has words fault
  told_replies said is (Text f) holds = absurd holds
  told_replies said is fault holds = (position, named, inr (said, is, holds))

-- what is given for a certificate is given for its file
pub replied : {X : Type 0} (c : ShelfChange) (file words : List ℕ) (position : Setup) → IsTextOf words position → (result : Result (String X) ProgramFault)
    → (said : Content) → IsCertificateFile (c.before.has file) said → FailsWhere c false
    → IfOk result (λ line. IsToldReply said position (string_bytes line)) → IfErr result (IsReplyFault said position)
    → GivesLines c (IsReplyLine (c.before.has file) words) (IsReplyFaultOf (c.before.has file) words) result
replied c file words position named (Ok line) said is failed ok err =
    (record { said = said; read = is; position = position; named = named; told = ok }, failed)
replied c file words position named (Err fault) said is failed ok err = (
  told_replies (c.before.has file) words position named said is fault err,
  reply_fails said position c.before.has_failed c.after.has_failed fault err failed,
)
