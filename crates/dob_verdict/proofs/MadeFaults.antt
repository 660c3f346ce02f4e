-- The faults of reading a file, of making a certificate and of keeping its bytes are those of certifying.
use Rattle.dob_verdict.proofs.Common.{◌∙◌, ◌≡◌, Bool, List, false, inl, inr, subst, sym, ℕ, Err, IsTrue, Ok, Result, String, Setup, ClassTable, Change}
use Rattle.dob_verdict.proofs.Common.{Content, HasJust, SameFiles, ShelfChange, ShelfState, is_io, AreThese, FillsSink, IsShelfFault, LeavesFiles, IsFileOf}
use Rattle.dob_verdict.proofs.Common.{IsOpeningFault, IsTextOf, ProgramFault, Certificate, Io, Memory, Table}
use Rattle.std.specs.Prelude.{string_bytes}
use Rattle.dob_certfile.specs.Format.{bytes_of}
use Rattle.dob_certify.specs.declared.fault.MakingFault.{MakingFault}
use Rattle.dob_certify.specs.Faults.{IsFault}
use Rattle.dob_files.specs.declared.certificate_fault.CertificateFault.TheVariants.{Unproved, TooMany, Unfit}
use Rattle.dob_verdict.specs.Certificates.{AreCertifyLines, AreMade, IsCertifyFault, IsSaidOf, IsTableMakingFault, IsUnfit, fault_of_making, made_lines}
use Rattle.dob_files.proofs.Kept.{AreKept, of_shelf_fault, same_chain}
use Rattle.std.proofs.Common.{arith}

-- a fault of making a certificate is one of filling its file, and no device's
pub making_fills : (table : ClassTable) (is_exact : Bool) (most : ℕ) (position : Setup) (given : MakingFault) → IsFault table is_exact position most given
    → IsTableMakingFault table is_exact most position (fault_of_making given)
making_fills table is_exact most position given holds = grind arith

pub making_works : (given : MakingFault) → false ≡ is_io (fault_of_making given)
making_works given = grind arith

-- so is one of what no file can say
pub unfit_fills : (table : ClassTable) (is_exact : Bool) (most : ℕ) (position : Setup) (said : Content) → IsSaidOf table is_exact most position said
    → (fault : ProgramFault) → IsUnfit said fault → IsTableMakingFault table is_exact most position fault
unfit_fills table is_exact most position said made (Certificate Unfit) holds = (said, made, holds)
unfit_fills table is_exact most position said made Memory holds = tt
unfit_fills table is_exact most position said made fault holds = absurd holds

pub unfit_works : (said : Content) (fault : ProgramFault) → IsUnfit said fault → false ≡ is_io fault
unfit_works said fault holds = grind arith

-- and one of filling a file with bytes
shelf_fills : (table : ClassTable) (is_exact : Bool) (most : ℕ) (position : Setup) (fault : ProgramFault) → IsShelfFault fault
    → IsTableMakingFault table is_exact most position fault
shelf_fills table is_exact most position = of_shelf_fault (IsTableMakingFault table is_exact most position) tt tt

-- filled with the certificate's bytes
pub certificate_fills : {X : Type 0} (table : ClassTable) (is_exact : Bool) (most : ℕ) (position : Setup) (said : Content)
    → IsSaidOf table is_exact most position said → {lines bytes : List ℕ} → lines ≡ made_lines position said → bytes ≡ bytes_of said
    → (filled : Result (String X) ProgramFault) (c : Change) → FillsSink (AreThese lines bytes) IsShelfFault filled c
    → FillsSink (AreMade table is_exact most position) (IsTableMakingFault table is_exact most position) filled c
certificate_fills table is_exact most position said made lined written (Ok text) c fills = record {
  whole = let put = fills.whole in (put.0, (said, made, put.1.0 ∙ lined, put.1.1 ∙ written), put.2);
  fault = tt;
  failed = fills.failed;
}
certificate_fills table is_exact most position said made lined written (Err fault) c fills = record {
  whole = tt;
  fault = shelf_fills table is_exact most position fault fills.fault;
  failed = fills.failed;
}

module _ (c : ShelfChange) (file : List ℕ) (is_exact : Bool) (most : ℕ) (words : List ℕ) (position : Setup) (named : IsTextOf words position)
    (same : SameFiles c.before.has c.after.has) where
  pub opening_certifies : (fault : ProgramFault) → IsOpeningFault (c.before.has file) fault → IsCertifyFault c file is_exact most words fault
  opening_certifies fault holds = grind arith

  pub shelf_certifies : (table : ClassTable) → IsFileOf (c.before.has file) table → (fault : ProgramFault) → IsShelfFault fault
      → IsCertifyFault c file is_exact most words fault
  shelf_certifies table is = of_shelf_fault (IsCertifyFault c file is_exact most words) same (position, named, inr (table, is), same)

  pub filling_certifies : (table : ClassTable) → IsFileOf (c.before.has file) table → (fault : ProgramFault)
      → IsTableMakingFault table is_exact most position fault
      → IsCertifyFault c file is_exact most words fault
  filling_certifies table is (Table f) holds = (position, named, (table, is, holds), same)
  filling_certifies table is (Certificate (Unproved r)) holds = (position, named, (table, is, holds), same)
  filling_certifies table is (Certificate (TooMany n)) holds = (position, named, (table, is, holds), same)
  filling_certifies table is (Certificate Unfit) holds =
      (position, named, (holds.0, record { table = table; read = is; is = holds.1 }, holds.2), same)
  filling_certifies table is Memory holds = same
  filling_certifies table is Io holds = (position, named, inr (table, is), same)
  filling_certifies table is fault holds = absurd holds

-- after the table was read and the other file made, which changed no file
pub keeping_certifies : (c : ShelfChange) (file : List ℕ) (is_exact : Bool) (most : ℕ) (words : List ℕ) (position : Setup) → IsTextOf words position
    → (mid : ShelfState) (table : ClassTable) → IsFileOf (c.before.has file) table → SameFiles c.before.has mid.has → (fault : ProgramFault)
    → LeavesFiles (record c { before = mid }) (IsTableMakingFault table is_exact most position) fault → IsCertifyFault c file is_exact most words fault
keeping_certifies c file is_exact most words position named mid table read same fault holds =
    let still = same_chain c.before.has mid.has c.after.has same holds.1 in
    elim holds.0 [
      | inl unfilled ↦ filling_certifies c file is_exact most words position named still table read fault unfilled
      | inr unkept ↦ shelf_certifies c file is_exact most words position named still table read fault unkept
    ]

-- the lines and the file that was kept
pub certify_lines : {X : Type 0} (c : ShelfChange) (file out : List ℕ) (is_exact : Bool) (most : ℕ) (words : List ℕ) (position : Setup)
    → IsTextOf words position
    → (mid : ShelfState) → mid.tells ≡ c.before.tells → (table : ClassTable) → IsFileOf (c.before.has file) table → (text : String X)
    → AreKept (AreMade table is_exact most position) out (record c { before = mid }) text → AreCertifyLines c file out is_exact most words (string_bytes text)
certify_lines c file out is_exact most words position named mid told table read text is = record {
  position = position;
  named = named;
  said = is.1.0;
  made = record { table = table; read = read; is = is.1.1 };
  kept = λ tells. subst (λ (bytes : List ℕ). HasJust out bytes c.after.has) is.1.3 (is.2 (subst (λ (b : Bool). IsTrue b) (sym told) tells));
  same = is.1.2;
}
