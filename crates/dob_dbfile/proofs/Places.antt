-- Of a stream one fault holds at most, and none where it passes all tests.
use Rattle.dob_dbfile.proofs.Common.{◌↔◌, ◌∙◌, ◌≡◌, ◌≢◌, ◌≤◌, ◌⊎◌, Bool, Err, List, Ok, Result, ap, arith, cond, false, inl, inr, length, refl, slice_index}
use Rattle.dob_dbfile.proofs.Common.{subst, suc, sym, true, zero, ℕ, cases_lt, cases_order, PieceSet, Family, Profile, A, B, family_of, Stream, CountsClasses}
use Rattle.dob_dbfile.proofs.Common.{HasDigest, HasHeader, HasReadFault, HasTitle, IsHeaderShort, NamesFamily, NamesSet, PassesAll, SaysProfile, set_bytes}
use Rattle.dob_dbfile.proofs.Common.{title, Fault, Format, First, Second}
use Rattle.std.specs.Result.{IfOk, IfErr, IsErrOf, MatchResult}
use Rattle.dob_dbfile.specs.Format.{profile_number}
use Rattle.dob_rank.proofs.Positions.Sets.{same_numbers}
use Rattle.dob_dbfile.specs.Faults.{HasFront, IsWhole, IsNoLonger, Ends}
use Rattle.dob_dbfile.specs.declared.fault.Fault.TheVariants as fault

-- ---- one format, one set, one family
same_title : (f g : Format) → title f ≡ title g → f ≡ g
same_title First First same = refl
same_title Second Second same = refl
same_title First Second same = let never : 49 ≡ 50 = ap (λ (xs : List ℕ). slice_index xs 7) same in absurd (omega (arith, never))
same_title Second First same = let never : 50 ≡ 49 = ap (λ (xs : List ℕ). slice_index xs 7) same in absurd (omega (arith, never))

same_byte : (p q : Profile) → profile_number p ≡ profile_number q → p ≡ q
same_byte A A same = refl
same_byte B B same = refl
same_byte A B same = absurd (omega (arith, same))
same_byte B A same = absurd (omega (arith, same))

same_profile : (format : Format) (p q : Profile) (bytes : List ℕ) → SaysProfile format p bytes → SaysProfile format q bytes → p ≡ q
same_profile First p q bytes at_p at_q = at_p ∙ sym at_q
same_profile Second p q bytes at_p at_q = grind (arith, same_byte)

pub same_format : (f g : Format) (bytes : List ℕ) → HasTitle f bytes → HasTitle g bytes → f ≡ g
same_format f g bytes at_f at_g = same_title f g (sym at_f.1 ∙ at_g.1)

pub same_set : (f g : Format) (p q : PieceSet) (bytes : List ℕ) → NamesSet f p bytes → NamesSet g q bytes → p ≡ q
same_set f g p q bytes at_p at_q =
    let same : set_bytes p ≡ set_bytes q = sym at_p.1 ∙ at_q.1 in
    same_numbers p q (cc) (cc) (cc)

-- what holds of the format and the set that bytes name holds of those that they are found to name
by_set : (f g : Format) (p q : PieceSet) (bytes : List ℕ) (P : Format → PieceSet → Type 0) → NamesSet f p bytes → NamesSet g q bytes → P f p → P g q
by_set f g p q bytes P at_f at_g holds =
    subst (λ (h : Format). P h q) (same_format f g bytes at_f.0 at_g.0) (subst (P f) (same_set f g p q bytes at_f at_g) holds)

pub same_head : (f g : Format) (p q : Family) (bytes : List ℕ) → NamesFamily f p bytes → NamesFamily g q bytes → (f ≡ g) × (p ≡ q)
same_head f g p q bytes at_f at_g =
    let format : f ≡ g = same_format f g bytes at_f.0.0.0 at_g.0.0.0 in
    let set : p.set ≡ q.set = same_set f g p.set q.set bytes at_f.0.0 at_g.0.0 in
    let profile : p.profile ≡ q.profile = same_profile g p.profile q.profile bytes (rw format at at_f.1) at_g.1 in
    (format, ap (λ (s : PieceSet). family_of s p.profile) set ∙ ap (family_of q.set) profile)

-- and of the family
by_family : (f g : Format) (p q : Family) (bytes : List ℕ) (P : Format → Family → Type 0) → NamesFamily f p bytes → NamesFamily g q bytes → P f p → P g q
by_family f g p q bytes P at_f at_g holds = grind (arith, same_head)

-- ---- how far a stream passes the tests
abbrev level : Stream → ℕ → Type 0
level s zero = Unit {0}
level s (suc zero) = HasFront s.bytes
level s (suc (suc zero)) = (f : Format) × HasTitle f s.bytes
level s (suc (suc (suc zero))) = (f : Format) × (p : PieceSet) × NamesSet f p s.bytes
level s (suc (suc (suc (suc zero)))) = (f : Format) × (p : PieceSet) × HasHeader f p s.bytes
level s (suc (suc (suc (suc (suc zero))))) = (f : Format) × (p : Family) × NamesFamily f p s.bytes
level s (suc (suc (suc (suc (suc (suc zero)))))) = (f : Format) × (p : Family) × CountsClasses f p s.bytes
level s (suc (suc (suc (suc (suc (suc (suc zero))))))) = (f : Format) × (p : Family) × IsWhole f p s
level s (suc (suc (suc (suc (suc (suc (suc (suc zero)))))))) = (f : Format) × (p : Family) × IsNoLonger f p s
level s (suc (suc (suc (suc (suc (suc (suc (suc (suc zero))))))))) = (f : Format) × (p : Family) × Ends f p s
level s (suc (suc (suc (suc (suc (suc (suc (suc (suc (suc n)))))))))) = PassesAll s

down : (s : Stream) (n : ℕ) → level s (suc n) → level s n
down s zero h = tt
down s (suc zero) h = h.1.0
down s (suc (suc zero)) h = (h.0, h.2.0)
down s (suc (suc (suc zero))) h = (h.0, h.1, h.2.0)
down s (suc (suc (suc (suc zero)))) h = (h.0, h.1.set, h.2.0)
down s (suc (suc (suc (suc (suc (suc (suc (suc (suc (suc n)))))))))) h = h
down s _ h = (h.0, h.1, h.2.0)

upto : (s : Stream) (m n : ℕ) → m ≤ n → level s n → level s m
upto s m zero le h = (let none : zero ≡ m = omega arith in subst (level s) none h)
upto s m (suc n) le h = elim (cases_lt n m) [
  | inl above ↦ let same : suc n ≡ m = omega arith in subst (level s) same h
  | inr below ↦ upto s m n below (down s n h)
]

-- the test of that number is the first that fails
record StopsAt (s : Stream) (n : ℕ) : Type 0 where
  within : n ≤ 9
  passed : level s n
  fails : ¬ level s (suc n)

one_place : (s : Stream) (m n : ℕ) → StopsAt s m → StopsAt s n → m ≡ n
one_place s m n a b = elim (cases_order m n) [
  | inl same ↦ same
  | inr order ↦ absurd (elim order [
    | inl before ↦ a.fails (upto s (suc m) n (omega arith) b.passed)
    | inr after ↦ b.fails (upto s (suc n) m (omega arith) a.passed)
  ])
]

-- the fault of a stream that comes to its end or its failure
abbrev cut_fault : Bool → ℕ → Fault
cut_fault fails len = cond fails (fault.Io len) fault.Truncated

-- the fault where the test of that number is the first that fails
abbrev fault_at : Stream → ℕ → Fault
fault_at s zero = cut_fault s.fails (length s.bytes)
fault_at s (suc zero) = fault.Magic
fault_at s (suc (suc zero)) = fault.SetByte
fault_at s (suc (suc (suc zero))) = cut_fault s.fails (length s.bytes)
fault_at s (suc (suc (suc (suc zero)))) = fault.ProfileByte
fault_at s (suc (suc (suc (suc (suc zero))))) = fault.ClassCount
fault_at s (suc (suc (suc (suc (suc (suc zero)))))) = cut_fault s.fails (length s.bytes)
fault_at s (suc (suc (suc (suc (suc (suc (suc zero))))))) = fault.Trailing
fault_at s (suc (suc (suc (suc (suc (suc (suc (suc zero)))))))) = fault.Io (length s.bytes)
fault_at s (suc (suc (suc (suc (suc (suc (suc (suc (suc n))))))))) = fault.Digest

-- a fault and its place
abbrev HasPlace : Stream → Fault → Type 0
HasPlace s given = (n : ℕ) × StopsAt s n × (given ≡ fault_at s n)

stops : (s : Stream) (given : Fault) (n : ℕ) → n ≤ 9 → level s n → ¬ level s (suc n) → given ≡ fault_at s n → HasPlace s given
stops s given n within passed fails is = (n, record { within = within; passed = passed; fails = fails }, is)

-- bytes that are too few for a header
header_place : (s : Stream) (given : Fault) → given ≡ cut_fault s.fails (length s.bytes) → IsHeaderShort s.bytes → HasPlace s given
header_place s given is (inl none) = stops s given 0 (omega arith) tt none is
header_place s given is (inr part) = stops s given 3 (omega arith) (part.0, part.1, part.2)
    (λ x. part.3 (by_set x.0 part.0 x.1 part.1 s.bytes (λ (f : Format) (p : PieceSet). HasHeader f p s.bytes) x.2.0 part.2 x.2)) is

-- or for the records and the digest
short_place : (s : Stream) (given : Fault) (f : Format) (p : Family) → given ≡ cut_fault s.fails (length s.bytes) → CountsClasses f p s.bytes
    → ¬ IsWhole f p s → HasPlace s given
short_place s given f p is counts part = stops s given 6 (omega arith) (f, p, counts)
    (λ x. part (by_family x.0 f x.1 p s.bytes (λ (g : Format) (q : Family). IsWhole g q s) x.2.0.0 counts.0 x.2)) is

-- each fault has its place
place_of : (s : Stream) (given : Fault) → HasReadFault s given → HasPlace s given
place_of s fault.Truncated h =
    let is : fault.Truncated ≡ cut_fault s.fails (length s.bytes) = sym (ap (λ (b : Bool). cut_fault b (length s.bytes)) h.1) in
    elim h.0 [
      | inl short ↦ header_place s fault.Truncated is short
      | inr part ↦ short_place s fault.Truncated part.0 part.1 is part.2 part.3
    ]
place_of s fault.Magic h = stops s fault.Magic 1 (omega arith) h.0 (λ x. h.1 x.0 x.1) refl
place_of s fault.SetByte h = stops s fault.SetByte 2 (omega arith) (h.0, h.1)
    (λ x. h.2 x.1 (subst (λ (f : Format). NamesSet f x.1 s.bytes) (same_format x.0 h.0 s.bytes x.2.0 h.1) x.2)) refl
place_of s fault.ProfileByte h = stops s fault.ProfileByte 4 (omega arith) (h.0, h.1, h.2)
    (λ x. h.3 x.1.profile
    (by_set x.0 h.0 x.1.set h.1 s.bytes (λ (f : Format) (p : PieceSet). NamesFamily f (family_of p x.1.profile) s.bytes) x.2.0.0 h.2.0 x.2)) refl
place_of s fault.ClassCount h = stops s fault.ClassCount 5 (omega arith) (h.0, h.1, h.2)
    (λ x. h.3 (by_family x.0 h.0 x.1 h.1 s.bytes (λ (f : Format) (p : Family). CountsClasses f p s.bytes) x.2.0 h.2 x.2)) refl
place_of s fault.Trailing h = stops s fault.Trailing 7 (omega arith) (h.0, h.1, h.2)
    (λ x. h.3 (by_family x.0 h.0 x.1 h.1 s.bytes (λ (f : Format) (p : Family). IsNoLonger f p s) x.2.0.0.0 h.2.0.0 x.2)) refl
place_of s fault.Digest h = stops s fault.Digest 9 (omega arith) (h.0, h.1, h.2)
    (λ x. h.3 (by_family x.0 h.0 x.1 h.1 s.bytes (λ (f : Format) (p : Family). HasDigest f p s) x.2.0.0.0.0.0 h.2.0.0.0.0 x.2)) refl
place_of s (fault.Io bytes) h =
    let is : fault.Io bytes ≡ cut_fault s.fails (length s.bytes) =
    ap (λ (n : ℕ). fault.Io n) h.0 ∙ sym (ap (λ (b : Bool). cut_fault b (length s.bytes)) h.1) in
    elim h.2 [
      | inl short ↦ elim short [
        | inl head ↦ header_place s (fault.Io bytes) is head
        | inr part ↦ short_place s (fault.Io bytes) part.0 part.1 is part.2 part.3
      ]
      | inr end ↦ stops s (fault.Io bytes) 8 (omega arith) (end.0, end.1, end.2)
          (λ x. let never : false ≡ true = sym x.2.1 ∙ h.1 in absurd (cc)) (ap (λ (n : ℕ). fault.Io n) h.0)
    ]
place_of s fault.Memory h = absurd h

-- of a stream one fault holds at most
pub one_fault : (s : Stream) (f g : Fault) → HasReadFault s f → HasReadFault s g → f ≡ g
one_fault s f g at_f at_g =
    let a = place_of s f at_f in
    let b = place_of s g at_g in
    a.2 ∙ ap (fault_at s) (one_place s a.0 b.0 a.1 b.1) ∙ sym b.2

-- and none where all tests are passed
pub no_fault : (s : Stream) (f : Fault) → PassesAll s → HasReadFault s f → ⊥
no_fault s f right at_f =
    let a = place_of s f at_f in a.1.fails (upto s (suc a.0) 10 (omega (arith, a.1.within)) right)

-- and only the digest's where the stream ends where it should
pub only_digest : (s : Stream) (f : Fault) (g : Format) (p : Family) → Ends g p s → HasReadFault s f → f ≡ fault.Digest
only_digest s f g p ends at_f =
    let a = place_of s f at_f in
    let nine : level s 9 = (g, p, ends) in
    elim (cases_lt a.0 9) [
      | inl low ↦ absurd (a.1.fails (upto s (suc a.0) 9 low nine))
      | inr last ↦ a.2 ∙ ap (fault_at s) (let within = a.1.within in let is : a.0 ≡ 9 = omega (arith, last, within) in is)
    ]

-- what the bytes of a whole file say without their digest says so of each fault but the digest's
pub exact_but_digest : {X : Type 0} (s : Stream) (result : Result X Fault) → s.fails ≡ false
    → IfOk result (λ x. (g : Format) × (p : Family) × IsNoLonger g p s) → IfErr result (HasReadFault s) → IfErr result (λ given. given ≢ fault.Digest)
    → (f : Fault) → IsErrOf result f ↔ (HasReadFault s f × (f ≢ fault.Digest))
exact_but_digest s (Ok x) whole right wrong known f = grind (arith, only_digest)
exact_but_digest s (Err given) whole right wrong known f = grind (arith, one_fault)

-- what reading gives says so of each fault
pub exact_as : {X : Type 0} (s : Stream) (result : Result X Fault) → IfOk result (λ x. PassesAll s)
    → IfErr result (λ given. (given ≡ fault.Memory) ⊎ HasReadFault s given) → (f : Fault) → HasReadFault s f
    → MatchResult result (λ _. ⊥) (λ given. (given ≡ fault.Memory) ⊎ (given ≡ f))
exact_as s (Ok x) right wrong f at_f = no_fault s f right at_f
exact_as s (Err given) right (inl none) f at_f = inl none
exact_as s (Err given) right (inr at_given) f at_f = inr (one_fault s given f at_given at_f)
