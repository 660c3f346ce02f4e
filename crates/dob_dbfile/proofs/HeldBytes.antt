-- What the bytes of a file that is held show of the whole of it, and what its first bytes show.
use Rattle.dob_dbfile.proofs.Common.{◌<◌, ◌≡◌, ◌≤◌, List, ap, arith, inl, inr, length, refl, subst, sym, take, take_all, ℕ, Family, whole, CountsClasses, HasHeaderFault}
use Rattle.dob_dbfile.proofs.Common.{HasReadFault, IsHeaderShort, file_len, HasFrontFault, Fault, Format}
use Rattle.dob_dbfile.proofs.Headers.{by_fault, counts_lifts, fault_lifts, header_short}
use Rattle.std.proofs.lemmas.List.{length-take}
use Rattle.dob_dbfile.specs.Fronts.{IsFrontOf}
use Rattle.dob_dbfile.specs.declared.fault.Fault.TheVariants as fault

-- ---- what the bytes of a file that is held show of the whole of it

-- a fault of the header is one of the file
pub refused : (bytes : List ℕ) (given : Fault) → HasHeaderFault bytes given → HasReadFault (whole bytes) given
refused bytes = by_fault bytes (HasReadFault (whole bytes)) (λ wrong. wrong) (λ wrong. wrong) (λ wrong. wrong) (λ wrong. wrong)

-- and isn't the digest's
pub no_digest : (bytes : List ℕ) (given : Fault) → HasHeaderFault bytes given → given ≡ fault.Digest → ⊥
no_digest bytes = by_fault bytes (λ given. given ≡ fault.Digest → ⊥) (λ wrong is. cc) (λ wrong is. cc) (λ wrong is. cc) (λ wrong is. cc)

-- where the header is right, how many bytes there are shows whether the file is cut or goes on
module _ (bytes : List ℕ) (format : Format) (family : Family) (counts : CountsClasses format family bytes) where
  pub cut_off : length bytes < file_len format family → HasReadFault (whole bytes) fault.Truncated
  cut_off short = (inr (format, family, counts, λ is. let le : file_len format family ≤ length bytes = is.1 in omega (arith, le, short)), refl)

  pub goes_on : file_len format family < length bytes → HasReadFault (whole bytes) fault.Trailing
  goes_on long = (format, family, (counts, omega (arith, long)), λ is. let le : length bytes ≤ file_len format family = is.1 in omega (arith, le, long))

-- ---- what the first bytes of a file and its length show of the whole

-- all bytes are a front of themselves
pub all_front : (bytes : List ℕ) → IsFrontOf bytes (length bytes) bytes
all_front bytes = record { long = refl; begins = sym (take_all (length bytes) bytes (omega arith)); enough = inr refl }

-- the first bytes are no more than all
no_more : (front file : List ℕ) → front ≡ take (length front) file → length front ≤ length file
no_more front file begins = let is : length front ≡ length (take (length front) file) = ap length begins in
    let cut = length-take (length front) file in omega (arith, is, cut)

pub counts_by_front : (front : List ℕ) (size : ℕ) (file : List ℕ) → IsFrontOf front size file → (format : Format) (family : Family)
    → CountsClasses format family front → CountsClasses format family file
counts_by_front front size file is format family counts = elim is.enough [
  | inl long ↦ counts_lifts (length front) file (omega (arith, long)) (no_more front file is.begins) format family
      (subst (CountsClasses format family) is.begins counts)
  | inr same ↦ subst (CountsClasses format family) same counts
]

-- a header that is cut short is all of the file
short_is_all : (front : List ℕ) (size : ℕ) (file : List ℕ) → IsFrontOf front size file → length front < 21 → front ≡ file
short_is_all front size file is short = grind arith

short_header : (front : List ℕ) → IsHeaderShort front → length front < 21
short_header front (inl few) = grind arith
short_header front (inr (format, set, names, none)) = grind (arith, header_short)

lifted : (front : List ℕ) (size : ℕ) (file : List ℕ) → IsFrontOf front size file → (given : Fault) → HasHeaderFault front given → HasReadFault (whole file) given
lifted front size file is given wrong = elim is.enough [
  | inl long ↦ refused file given (fault_lifts (length front) file (omega (arith, long)) (no_more front file is.begins) given
      (subst (λ (bytes : List ℕ). HasHeaderFault bytes given) is.begins wrong))
  | inr same ↦ refused file given (subst (λ (bytes : List ℕ). HasHeaderFault bytes given) same wrong)
]

pub fault_by_front : (front : List ℕ) (size : ℕ) (file : List ℕ) → IsFrontOf front size file → (given : Fault) → HasFrontFault (whole front) given
    → HasReadFault (whole file) given
fault_by_front front size file is fault.Truncated wrong =
    (inl (subst IsHeaderShort (short_is_all front size file is (short_header front wrong.0)) wrong.0), refl)
fault_by_front front size file is (fault.Io count) wrong = cc
fault_by_front front size file is given wrong = lifted front size file is given wrong
