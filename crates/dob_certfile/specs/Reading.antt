-- Reading a certificate's file from left to right, with the first fault that is met.
use Rattle.std.specs.Prelude.{◌≡◌, ◌≤◌, ℕ, zero, suc, ◌+◌, ◌-◌, ◌*◌, List, [], ◌∷◌, length, take, drop, get_or, bytes_eq, Bool, true, false, Result, Ok, Err, nat_eq, nat_lt, nat_le, if◌then◌else◌}
use Rattle.std.proofs.Common.{arith}
use Rattle.byteorder.specs.Endian.{little_number}
use Rattle.sha2.specs.Sha256.{sha256}
use Rattle.dob_pieces.specs.declared.piece_set.PieceSet.{PieceSet}
use Rattle.dob_pieces.specs.declared.profile.Family.{Family}
use Rattle.dob_pieces.specs.declared.profile.Profile.{Profile}
use Rattle.dob_pieces.specs.declared.profile.Profile.TheVariants.{A, B}
use Rattle.dob_rank.specs.Families.{classes_of, family_of}
use Rattle.dob_distance.specs.declared.value.Value.TheVariants.{Win, Loss, Draw}
use Rattle.dob_certificate.specs.declared.claim.Claim.{Claim}
use Rattle.dob_certificate.specs.declared.claim.Claim.TheVariants.{Exactly, LostWithin, WonWithin}
use Rattle.dob_certificate.specs.declared.entry.Entry.{Entry}
use Rattle.dob_certificate.specs.declared.entry.TheConstants.{EVER}
use Rattle.dob_certificate.specs.declared.list_kind.ListKind.{ListKind}
use Rattle.dob_certificate.specs.declared.list_kind.ListKind.TheVariants.{Lost, Held}
use Rattle.dob_certfile.specs.declared.defect.Defect.{Defect}
use Rattle.dob_certfile.specs.declared.defect.Defect.TheVariants.{Truncated, Magic, Version, SetByte, ProfileByte, RootClass, ClaimByte, EntryCount, EntryNumber, EntryOrder, EntryClass, EntryPlies, Trailing, Digest}
use Rattle.dob_certfile.specs.declared.defect.ReadFault.{ReadFault}
use Rattle.dob_certfile.specs.declared.defect.ReadFault.TheVariants as faults
use Rattle.dob_certfile.specs.Format.{Content, certificate_title}

infixl 10 ◌>>=◌
abbrev pub ◌>>=◌ : {A B : Type 0} → Result A Defect → (A → Result B Defect) → Result B Defect
(Ok x) >>= f = f x
(Err e) >>= f = Err e

-- a test, and the defect where it isn't passed
abbrev pub wants : Bool → Defect → Result Unit Defect
wants true defect = Ok tt
wants false defect = Err defect

-- ---- what a function returned, seen by view, is what reading gives ..
abbrev pub Gives : {X Y : Type 0} → (X → Y) → Result X Defect → Result Y Defect → Type 0
Gives view (Ok x) read = read ≡ Ok (view x)
Gives view (Err e) read = read ≡ Err e

-- .. unless memory ran out
abbrev pub Fails : {Y : Type 0} → ReadFault → Result Y Defect → Type 0
Fails faults.Memory read = Unit {0}
Fails (faults.Defect e) read = read ≡ Err e

abbrev pub MayGive : {X Y : Type 0} → (X → Y) → Result X ReadFault → Result Y Defect → Type 0
MayGive view (Ok x) read = read ≡ Ok (view x)
MayGive view (Err e) read = Fails e read

-- ---- fields: each is a value, and the bytes after it
abbrev pub byte_at : List ℕ → Result (ℕ × List ℕ) Defect
byte_at [] = Err Truncated
byte_at (byte ∷ bytes) = Ok (byte, bytes)

-- A byte below 128 is the last. Of another one the low seven bits count, and what stands after it isn't 0.
unfoldable pub number_at : ℕ → List ℕ → Result (ℕ × List ℕ) Defect
number_at zero bytes = do
  low ← byte_at bytes
  if nat_lt low.0 128 then Ok low else Err EntryNumber
number_at (suc more) bytes = do
  low ← byte_at bytes
  if nat_lt low.0 128 then Ok low else (number_at more low.1 >>= λ high. if nat_eq high.0 0 then Err EntryNumber else Ok (low.0 - 128 + 128 * high.0, high.1))

-- 255 is ever, which says nothing of what is lost
abbrev pub plies_at : ListKind → ℕ → Result ℕ Defect
plies_at Lost byte = if nat_lt byte 255 then Ok byte else Err EntryPlies
plies_at Held byte = Ok (if nat_lt byte 255 then byte else EVER)

-- the number is how far the class is from the one below the least
unfoldable pub entry_at : ListKind → ℕ → ℕ → List ℕ → Result (Entry × List ℕ) Defect
entry_at kind classes least bytes = do
  number ← number_at 4 bytes
  above ← wants (nat_lt 0 number.0) EntryOrder
  known ← wants (nat_le (least + number.0) classes) EntryClass
  byte ← byte_at number.1
  plies ← plies_at kind byte.0
  Ok (record { class = least + number.0 - 1; plies = plies }, byte.1)

unfoldable pub entries_at : ListKind → ℕ → ℕ → ℕ → List ℕ → Result (List Entry × List ℕ) Defect
entries_at kind classes least zero bytes = Ok ([], bytes)
entries_at kind classes least (suc count) bytes = do
  first ← entry_at kind classes least bytes
  others ← entries_at kind classes (first.0.class + 1) count first.1
  Ok (first.0 ∷ others.0, others.1)

-- ---- the front: 28 bytes

-- so many bytes from a place
abbrev pub part : ℕ → ℕ → List ℕ → List ℕ
part place count bytes = take count (drop place bytes)

-- the number in four bytes from a place
abbrev pub word : ℕ → List ℕ → ℕ
word place bytes = little_number 4 (part place 4 bytes)

-- none, one or two of a kind
abbrev pub few_at : ℕ → Result ((n : ℕ) × (n ≤ 2)) Defect
few_at zero = Ok (0, omega arith)
few_at (suc zero) = Ok (1, omega arith)
few_at (suc (suc zero)) = Ok (2, omega arith)
few_at (suc (suc (suc n))) = Err SetByte

unfoldable pub set_at : List ℕ → Result PieceSet Defect
set_at bytes = do
  chicks ← few_at (get_or bytes 0 0)
  elephants ← few_at (get_or bytes 1 0)
  giraffes ← few_at (get_or bytes 2 0)
  two ← wants (nat_eq (get_or bytes 3 0) 2) SetByte
  Ok (record { chicks = chicks.0; elephants = elephants.0; giraffes = giraffes.0; few_chicks = chicks.1; few_elephants = elephants.1; few_giraffes = giraffes.1 })

abbrev pub profile_at : ℕ → Result Profile Defect
profile_at zero = Ok A
profile_at (suc zero) = Ok B
profile_at (suc (suc n)) = Err ProfileByte

unfoldable pub family_at : List ℕ → Result Family Defect
family_at bytes = do
  long ← wants (nat_le 28 (length bytes)) Truncated
  titled ← wants (bytes_eq (part 0 8 bytes) certificate_title) Magic
  known ← wants (nat_eq (get_or bytes 8 0) 1) Version
  set ← set_at (part 9 4 bytes)
  profile ← profile_at (get_or bytes 13 0)
  Ok (family_of set profile)

-- a kind and the plies; a draw has none
abbrev pub claim_of_kind : ℕ → ℕ → Result Claim Defect
claim_of_kind zero zero = Ok (Exactly Draw)
claim_of_kind zero (suc plies) = Err ClaimByte
claim_of_kind (suc zero) plies = Ok (Exactly (Win plies))
claim_of_kind (suc (suc zero)) plies = Ok (Exactly (Loss plies))
claim_of_kind (suc (suc (suc zero))) plies = Ok (WonWithin plies)
claim_of_kind (suc (suc (suc (suc zero)))) plies = Ok (LostWithin plies)
claim_of_kind (suc (suc (suc (suc (suc kind))))) plies = Err ClaimByte

abbrev pub claim_at : ℕ → ℕ → Result Claim Defect
claim_at kind plies = if nat_lt plies 255 then claim_of_kind kind plies else Err ClaimByte

-- what stands before the entries: with how many each list has
pub record FrontContent : Type 0 where
  pub family : Family
  pub root : ℕ
  pub claim : Claim
  pub lost_count : ℕ
  pub held_count : ℕ

unfoldable pub front_at : List ℕ → Result FrontContent Defect
front_at bytes = do
  family ← family_at bytes
  root ← wants (nat_lt (word 14 bytes) (classes_of family)) RootClass
  claim ← claim_at (get_or bytes 18 0) (get_or bytes 19 0)
  lost ← wants (nat_le (word 20 bytes) (classes_of family)) EntryCount
  held ← wants (nat_le (word 24 bytes) (classes_of family)) EntryCount
  Ok (record { family = family; root = word 14 bytes; claim = claim; lost_count = word 20 bytes; held_count = word 24 bytes })

-- ---- the whole file

-- what is left after the entries is the digest of all before
unfoldable pub seal_at : List ℕ → List ℕ → Result Unit Defect
seal_at bytes rest = do
  whole ← wants (nat_le 32 (length rest)) Truncated
  ends ← wants (nat_le (length rest) 32) Trailing
  wants (bytes_eq rest (sha256 (take (length bytes - 32) bytes))) Digest

unfoldable pub file_at : List ℕ → Result Content Defect
file_at bytes = do
  front ← front_at bytes
  lost ← entries_at Lost (classes_of front.family) 0 front.lost_count (drop 28 bytes)
  held ← entries_at Held (classes_of front.family) 0 front.held_count lost.1
  sealed ← seal_at bytes held.1
  Ok (record { family = front.family; root = front.root; claim = front.claim; lost = lost.0; held = held.0 })

-- The first fault of the bytes, from left to right.
abbrev pub HasCertFault : List ℕ → Defect → Type 0
HasCertFault bytes defect = file_at bytes ≡ Err defect
