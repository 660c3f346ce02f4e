-- What stands before a certificate's entries is said by its first 28 bytes.
use Rattle.std.specs.Prelude.{◌≡◌, ◌+◌, ◌≤◌, ℕ, Bool, false, true, List, Err, drop, get_or, length, take}
use Rattle.std.proofs.Common.{◌∙◌, ap, arith, leb, refl, sym}
use Rattle.std.proofs.lemmas.Bool.Decides.{nat_tests}
use Rattle.std.proofs.lemmas.Bool.{leb-true}
use Rattle.std.proofs.lemmas.List.{drop-take, get_or-take, length-take-le, take-take, take_all}
use Rattle.dob_certfile.specs.declared.defect.Defect.{Defect}
use Rattle.dob_certfile.specs.Reading.{family_at, file_at, front_at, part}

part_same : (place count rest : ℕ) (bytes : List ℕ) → part place count (take (place + (count + rest)) bytes) ≡ part place count bytes
part_same place count rest bytes = ap (λ (l : List ℕ). take count l) (drop-take place (count + rest) bytes) ∙ take-take count (count + rest) (drop place bytes) (omega arith)

pub few : (n : ℕ) → leb 28 n ≡ false → n ≤ 28
few n e = grind (arith, nat_tests)

long_same : (bytes : List ℕ) → leb 28 (length (take 28 bytes)) ≡ leb 28 (length bytes)
long_same bytes = go (leb 28 (length bytes)) refl
  where
    go : (b : Bool) → leb 28 (length bytes) ≡ b → leb 28 (length (take 28 bytes)) ≡ leb 28 (length bytes)
    go true e = ap (λ (n : ℕ). leb 28 n) (length-take-le 28 bytes (leb-true 28 (length bytes) e)) ∙ sym e
    go false e = ap (λ (l : List ℕ). leb 28 (length l)) (take_all 28 bytes (few (length bytes) e))

cell_same : (place : ℕ) (bytes : List ℕ) → place + 1 ≤ 28 → get_or (take 28 bytes) place 0 ≡ get_or bytes place 0
cell_same place bytes within = get_or-take 28 bytes place 0 (omega (arith, within))

pub front_same : (bytes : List ℕ) → front_at (take 28 bytes) ≡ front_at bytes
unfolding front_at family_at
front_same bytes = rw (
  long_same bytes,
  part_same 0 8 20 bytes,
  cell_same 8 bytes (omega arith),
  part_same 9 4 15 bytes,
  cell_same 13 bytes (omega arith),
  part_same 14 4 10 bytes,
  cell_same 18 bytes (omega arith),
  cell_same 19 bytes (omega arith),
  part_same 20 4 4 bytes,
  part_same 24 4 0 bytes,
) refl

-- so what is wrong there is wrong with the file
pub front_wrong : (bytes : List ℕ) (d : Defect) → front_at (take 28 bytes) ≡ Err d → file_at bytes ≡ Err d
unfolding file_at
front_wrong bytes d e = rw (sym (front_same bytes) ∙ e) refl
