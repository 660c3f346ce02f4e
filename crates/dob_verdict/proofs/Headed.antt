-- What the header of a file says: of the bytes that were read, of the source and of the file.
use Rattle.dob_verdict.proofs.Common.{◌∙◌, ◌≡◌, Bool, List, inl, inr, sym, ℕ, ShelfFault, fault_of_shelf, ProgramFault}
use Rattle.dob_verdict.proofs.Common.{Certificate, Io, Memory}
use Rattle.std.specs.Prelude.{◌++◌, ◌≤◌, ◌∷◌, [], length, take}
use Rattle.std.specs.Fmt.{decimal}
use Rattle.std.proofs.Common.{ap, arith, refl}
use Rattle.std.proofs.Math.Nat.{eq-or-lt_of_le}
use Rattle.std.proofs.lemmas.Fmt.{decimal_digit}
use Rattle.std.proofs.lemmas.List.{length-take-le, take_all}
use Rattle.dob_pieces.specs.Sets.{digit, set_text}
use Rattle.dob_pieces.specs.declared.piece_set.PieceSet.{PieceSet}
use Rattle.dob_certfile.specs.Reading.{front_at}
use Rattle.dob_device.specs.Devices.{Fills, Stream, whole}
use Rattle.dob_files.proofs.TableFaults.{is_shut}
use Rattle.dob_files.specs.declared.certificate_fault.CertificateFault.TheVariants.{Defect}
use Rattle.dob_files.specs.declared.fault.ProgramFault.TheVariants.{File}
use Rattle.dob_shelf.specs.declared.shelf.ShelfFault.TheVariants as shelf_fault
use Rattle.dob_verdict.specs.Headers.{AreInfoLines, IsDefectOf, IsFrontFault, IsInfoFault}

-- what was read into room for so many bytes is as many of a file's first ones, or all
pub front_read : (n : ℕ) (bytes room : List ℕ) (count : ℕ) → length room ≡ n → count ≤ length room → Fills (whole bytes) count room
    → take count room ≡ take n bytes
front_read n bytes room count long within fills = elim (eq-or-lt_of_le within) [
  | inl all ↦ fills.same ∙ ap (λ (k : ℕ). take k bytes) (all ∙ long)
  | inr fewer ↦
      let is : bytes ≡ take count room = ap (λ (s : Stream). s.bytes) (fills.end fewer) in
      sym is ∙ sym (take_all n bytes (omega (arith, ap (λ (l : List ℕ). length l) is, length-take-le count room within, fewer, long)))
]

-- ---- what stands before a certificate's entries

-- what is wrong with the bytes that were read is wrong with the file's
pub defect_fronts : (Has : List ℕ → Type 0) (front : List ℕ) → ((bytes : List ℕ) → Has bytes → front ≡ take 28 bytes) → (fault : ProgramFault)
    → IsDefectOf front fault → IsFrontFault Has fault
defect_fronts Has front is (Certificate (Defect d)) holds = λ bytes has. ap front_at (sym (is bytes has)) ∙ holds
defect_fronts Has front is fault holds = absurd holds

-- ---- the file

module _ (Has Also : List ℕ → Type 0) (also : (bytes : List ℕ) → Has bytes → Also bytes) where
  -- what is told of more bytes is told of these
  pub lines_weaker : (is_object : Bool) (lines : List ℕ) → AreInfoLines Also is_object lines → AreInfoLines Has is_object lines
  lines_weaker is_object lines told = (told.0, λ bytes has. told.1 bytes (also bytes has), told.2)

  pub fault_weaker : (fault : ProgramFault) → IsInfoFault Also fault → IsInfoFault Has fault
  fault_weaker (File f) holds = λ bytes has. holds bytes (also bytes has)
  fault_weaker (Certificate (Defect d)) holds = λ bytes has. holds bytes (also bytes has)
  fault_weaker Memory holds = tt
  fault_weaker Io holds = λ bytes has. holds bytes (also bytes has)
  fault_weaker fault holds = absurd holds

-- a file that a shelf has isn't opened only for lack of memory
pub shelf_info : (Has : List ℕ → Type 0) (lower : ShelfFault) → ((bytes : List ℕ) → Has bytes → lower ≡ shelf_fault.Memory)
    → IsInfoFault Has (fault_of_shelf lower)
shelf_info Has lower found = grind (arith, is_shut Has)

-- ---- texts
digit_told : (n : ℕ) → n ≤ 2 → decimal n ≡ digit n ∷ []
digit_told n few = decimal_digit n (omega (arith, few))

-- a set's numbers one after the other are its text
pub set_told : (set : PieceSet) → decimal set.chicks ++ (decimal set.elephants ++ decimal set.giraffes) ≡ set_text set
set_told set = rw (digit_told set.chicks set.few_chicks, digit_told set.elephants set.few_elephants, digit_told set.giraffes set.few_giraffes) refl
