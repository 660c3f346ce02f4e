-- The front that is read is the one that was written, and what was written is read again.
use Rattle.dob_certfile.proofs.Common.{◌++◌, ◌+◌, ◌<◌, ◌∙◌, ◌∷◌, ◌≡◌, ◌≤◌, Err, List, Ok, [], ap, arith, drop, eqb, get_or, inl, inr, leb, rules, length, ltb}
use Rattle.dob_certfile.proofs.Common.{refl, subst, suc, sym, take, zero, ℕ, cases_Bool, cases_lt, eqb-true, le-leb, leb-true, lt-ltb, ltb-true, drop_more}
use Rattle.dob_certfile.proofs.Common.{little_bytes, little_number, Family, classes_of-below, classes_of, family_of, FitsClaim, claim_bytes, certificate_title, ◌>>=◌}
use Rattle.dob_certfile.proofs.Common.{FrontContent, claim_at, claim_of_kind, few_at, part, profile_at, wants, word, family_at, front_at, set_at}
use Rattle.dob_certfile.proofs.Common.{EntryCount, Magic, ProfileByte, RootClass, SetByte, Truncated, Version}
use Rattle.std.specs.Prelude.{bytes_eq}
use Rattle.std.proofs.Common.{◌≢◌, slice_index}
use Rattle.std.proofs.lemmas.List.{take-append-drop, drop-drop, length-drop, length-take-le, get_or-drop, get_or-take}
use Rattle.byteorder.specs.Numbers.{little_number-reads_back}
use Rattle.dob_pieces.specs.declared.piece_set.PieceSet.{PieceSet}
use Rattle.dob_pieces.specs.declared.profile.Profile.{Profile}
use Rattle.dob_pieces.specs.declared.profile.Profile.TheVariants.{A, B}
use Rattle.dob_rank.proofs.Positions.Sets.{same_numbers}
use Rattle.dob_distance.specs.declared.value.Value.TheVariants.{Win, Loss, Draw}
use Rattle.dob_dbfile.specs.Format.{set_bytes, profile_number}
use Rattle.dob_certificate.specs.declared.claim.Claim.{Claim}
use Rattle.dob_certificate.specs.declared.claim.Claim.TheVariants.{Exactly, LostWithin, WonWithin}
use Rattle.dob_certfile.proofs.Fields.{IsBytes, bind_ok, wants_ok, ok_is, same_is, is_same}

-- what holds of each four cells holds of each list of four
of_four : (P : List ℕ → Type 0) → ((a b c d : ℕ) → P (a ∷ b ∷ c ∷ d ∷ [])) → (xs : List ℕ) → length xs ≡ 4 → P xs
of_four P each (a ∷ b ∷ c ∷ d ∷ []) long = each a b c d
of_four P each _ long = absurd (omega (arith, long))

-- ---- the set
few_ok : (n : ℕ) (x : (m : ℕ) × (m ≤ 2)) → few_at n ≡ Ok x → x.0 ≡ n
few_ok (suc (suc (suc n))) x e = absurd cc
few_ok _ x e = sym (ap (λ (p : (m : ℕ) × (m ≤ 2)). p.0) (ok_is _ x e))

few_large : (n : ℕ) → 2 < n → few_at n ≡ Err SetByte
few_large (suc (suc (suc n))) large = refl
few_large _ large = absurd (omega (arith, large))

few_again : (n : ℕ) → n ≤ 2 → (x : (m : ℕ) × (m ≤ 2)) × (few_at n ≡ Ok x) × (x.0 ≡ n)
few_again zero few = ((0, omega arith), refl, refl)
few_again (suc zero) few = ((1, omega arith), refl, refl)
few_again (suc (suc zero)) few = ((2, omega arith), refl, refl)
few_again (suc (suc (suc n))) few = absurd (omega (arith, few))

abbrev set_from : (x y z : (m : ℕ) × (m ≤ 2)) → PieceSet
set_from x y z = record { chicks = x.0; elephants = y.0; giraffes = z.0; few_chicks = x.1; few_elephants = y.1; few_giraffes = z.1 }

four : (a b c d w x y z : ℕ) → w ≡ a → x ≡ b → y ≡ c → z ≡ d → a ∷ b ∷ c ∷ d ∷ [] ≡ w ∷ x ∷ y ∷ z ∷ []
four a b c d w x y z ea eb ec ed = cc

set_of_cells : (a b c d : ℕ) (set : PieceSet) → set_at (a ∷ b ∷ c ∷ d ∷ []) ≡ Ok set → a ∷ b ∷ c ∷ d ∷ [] ≡ set_bytes set
unfolding set_at
set_of_cells a b c d set e = search (rules, few_ok, ok_is)

pub set_takes : (bytes : List ℕ) (set : PieceSet) → length bytes ≡ 4 → set_at bytes ≡ Ok set → bytes ≡ set_bytes set
set_takes bytes set long = of_four (λ xs. set_at xs ≡ Ok set → xs ≡ set_bytes set) (λ a b c d. set_of_cells a b c d set) bytes long

set_cells : (a b c : ℕ) → (few_a : a ≤ 2) → (few_b : b ≤ 2) → (few_c : c ≤ 2) → (set : PieceSet) × (set_at (a ∷ b ∷ c ∷ 2 ∷ []) ≡ Ok set) × (set_bytes set ≡ a ∷ b ∷ c ∷ 2 ∷ [])
unfolding set_at
set_cells a b c few_a few_b few_c =
    let x = few_again a few_a in
    let y = few_again b few_b in
    let z = few_again c few_c in
    (set_from x.0 y.0 z.0, rw (x.1, y.1, z.1) refl, sym (four a b c 2 x.0.0 y.0.0 z.0.0 2 x.2 y.2 z.2 refl))

-- the set of its bytes is that set
pub set_again : (set : PieceSet) → set_at (set_bytes set) ≡ Ok set
set_again set =
    let found = set_cells set.chicks set.elephants set.giraffes set.few_chicks set.few_elephants set.few_giraffes in
    let bytes = found.2 in
    let same : found.0 ≡ set = same_numbers found.0 set (ap (λ (xs : List ℕ). slice_index xs 0) bytes) (ap (λ (xs : List ℕ). slice_index xs 1) bytes) (ap (λ (xs : List ℕ). slice_index xs 2) bytes) in
    found.1 ∙ ap (λ (s : PieceSet). Ok s) same

none_of_cells : (a b c d : ℕ) → ((set : PieceSet) → a ∷ b ∷ c ∷ d ∷ [] ≢ set_bytes set) → set_at (a ∷ b ∷ c ∷ d ∷ []) ≡ Err SetByte
unfolding set_at
none_of_cells a b c d none = elim (cases_lt 2 a) [
  | inl large ↦ rw (few_large a large) refl
  | inr few_a ↦
      let x = few_again a few_a in elim (cases_lt 2 b) [
        | inl large ↦ rw (x.1, few_large b large) refl
        | inr few_b ↦
            let y = few_again b few_b in elim (cases_lt 2 c) [
              | inl large ↦ rw (x.1, y.1, few_large c large) refl
              | inr few_c ↦
                  let z = few_again c few_c in elim (cases_Bool (eqb d 2)) [
                    | inl two ↦
                        let found = set_cells a b c few_a few_b few_c in
                        absurd (none found.0 (ap (λ (n : ℕ). a ∷ b ∷ c ∷ n ∷ []) (eqb-true d 2 two) ∙ sym found.2))
                    | inr other ↦ rw (x.1, y.1, z.1, other) refl
                  ]
            ]
      ]
]

pub set_none : (bytes : List ℕ) → length bytes ≡ 4 → ((set : PieceSet) → bytes ≢ set_bytes set) → Err SetByte ≡ set_at bytes
set_none bytes long =
    of_four (λ xs. ((set : PieceSet) → xs ≢ set_bytes set) → Err SetByte ≡ set_at xs) (λ a b c d none. sym (none_of_cells a b c d none)) bytes long

-- ---- the profile, the claim, words
profile_takes : (byte : ℕ) (profile : Profile) → profile_at byte ≡ Ok profile → byte ≡ profile_number profile
profile_takes zero profile e = ap profile_number (ok_is A profile e)
profile_takes (suc zero) profile e = ap profile_number (ok_is B profile e)
profile_takes (suc (suc n)) profile e = absurd cc

pub profile_again : (profile : Profile) → profile_at (profile_number profile) ≡ Ok profile
profile_again A = refl
profile_again B = refl

pub profile_none : (byte : ℕ) → 2 ≤ byte → profile_at byte ≡ Err ProfileByte
profile_none (suc (suc n)) above = refl
profile_none _ above = absurd (omega (arith, above))

-- a claim has those two bytes, and plies below 255
abbrev IsClaimOf : ℕ → ℕ → Claim → Type 0
IsClaimOf kind plies claim = (claim_bytes claim ≡ kind ∷ plies ∷ []) × FitsClaim claim

claim_of : (kind plies : ℕ) (claim : Claim) → plies < 255 → claim_of_kind kind plies ≡ Ok claim → IsClaimOf kind plies claim
claim_of zero zero claim small e = subst (IsClaimOf 0 0) (ok_is (Exactly Draw) claim e) (refl, tt)
claim_of zero (suc plies) claim small e = absurd cc
claim_of (suc zero) plies claim small e = subst (IsClaimOf 1 plies) (ok_is (Exactly (Win plies)) claim e) (refl, small)
claim_of (suc (suc zero)) plies claim small e = subst (IsClaimOf 2 plies) (ok_is (Exactly (Loss plies)) claim e) (refl, small)
claim_of (suc (suc (suc zero))) plies claim small e = subst (IsClaimOf 3 plies) (ok_is (WonWithin plies) claim e) (refl, small)
claim_of (suc (suc (suc (suc zero)))) plies claim small e = subst (IsClaimOf 4 plies) (ok_is (LostWithin plies) claim e) (refl, small)
claim_of (suc (suc (suc (suc (suc kind))))) plies claim small e = absurd cc

claim_takes : (kind plies : ℕ) (claim : Claim) → claim_at kind plies ≡ Ok claim → IsClaimOf kind plies claim
claim_takes kind plies claim e = search rules

-- a word in four cells
cells_back : (a b c d : ℕ) → a < 256 → b < 256 → c < 256 → d < 256 → little_bytes 4 (little_number 4 (a ∷ b ∷ c ∷ d ∷ [])) ≡ a ∷ b ∷ c ∷ d ∷ []
cells_back a b c d fa fb fc fd = grind arith

word_back : (bytes : List ℕ) → length bytes ≡ 4 → IsBytes bytes → bytes ≡ little_bytes 4 (little_number 4 bytes)
word_back bytes long =
    of_four (λ xs. IsBytes xs → xs ≡ little_bytes 4 (little_number 4 xs))
    (λ a b c d fits. sym (cells_back a b c d (fits 0) (fits 1) (fits 2) (fits 3))) bytes long

-- ---- parts
part_long : (place count : ℕ) (bytes : List ℕ) → place + count ≤ length bytes → length (part place count bytes) ≡ count
part_long place count bytes within = length-take-le count (drop place bytes) (omega (arith, within, length-drop place bytes))

part_fits : (place count : ℕ) (bytes : List ℕ) → IsBytes bytes → IsBytes (part place count bytes)
part_fits place count bytes fits i = elim (cases_lt i count) [
  | inl lt ↦ rw (get_or-take count (drop place bytes) i 0 lt, get_or-drop place bytes i 0) (fits (place + i))
  | inr le ↦ take_end count (drop place bytes) i le
]
  where
    take_end : (count : ℕ) (xs : List ℕ) (i : ℕ) → count ≤ i → get_or (take count xs) i 0 < 256
    take_end (suc count) (x ∷ xs) zero le = absurd (omega (arith, le))
    take_end (suc count) (x ∷ xs) (suc i) le = take_end count xs i (omega (arith, le))
    take_end _ _ i le = omega arith

-- a part, and what stands behind it
cut : (place count next : ℕ) (bytes text : List ℕ) → place + count ≡ next → part place count bytes ≡ text → drop place bytes ≡ text ++ drop next bytes
cut place count next bytes text at is =
    sym (take-append-drop count (drop place bytes))
    ∙ ap (λ (xs : List ℕ). xs ++ drop count (drop place bytes)) is
    ∙ ap (λ (xs : List ℕ). text ++ xs) (drop-drop count place bytes ∙ ap (λ (n : ℕ). drop n bytes) at)

one_cell : (place : ℕ) (bytes : List ℕ) → place < length bytes → part place 1 bytes ≡ get_or bytes place 0 ∷ []
one_cell place bytes within = ap (take 1) (drop_more bytes place 0 within)

two_cells : (place : ℕ) (bytes : List ℕ) → place + 1 < length bytes → part place 2 bytes ≡ get_or bytes place 0 ∷ get_or bytes (place + 1) 0 ∷ []
two_cells place bytes within =
    ap (take 2) (drop_more bytes place 0 (omega (arith, within)) ∙ ap (λ (rest : List ℕ). get_or bytes place 0 ∷ rest) (drop_more bytes (place + 1) 0 within))

-- ---- the whole front
abbrev pub front_text : FrontContent → List ℕ → List ℕ
front_text f rest = certificate_title ++ 1 ∷ (set_bytes f.family.set ++ profile_number f.family.profile ∷ (little_bytes 4 f.root ++ (claim_bytes f.claim
    ++ (little_bytes 4 f.lost_count ++ (little_bytes 4 f.held_count ++ rest)))))

pub record FitsFront (f : FrontContent) : Type 0 where
  pub root : f.root < classes_of f.family
  pub claim : FitsClaim f.claim
  pub lost : f.lost_count ≤ classes_of f.family
  pub held : f.held_count ≤ classes_of f.family

-- what the first bytes name
record NamesFamily (bytes : List ℕ) (family : Family) : Type 0 where
  long : 28 ≤ length bytes
  titled : part 0 8 bytes ≡ certificate_title
  known : get_or bytes 8 0 ≡ 1
  set : part 9 4 bytes ≡ set_bytes family.set
  profile : get_or bytes 13 0 ≡ profile_number family.profile

family_takes : (bytes : List ℕ) (family : Family) → family_at bytes ≡ Ok family → NamesFamily bytes family
unfolding family_at
family_takes bytes family e =
    let a = wants_ok (leb 28 (length bytes)) Truncated (wants (bytes_eq (part 0 8 bytes) certificate_title) Magic >>= λ titled. wants (eqb (get_or bytes 8 0) 1) Version >>= λ known. set_at (part 9 4 bytes) >>= λ set. profile_at (get_or bytes 13 0) >>= λ profile. Ok (family_of set profile)) family e in
    let b = wants_ok (bytes_eq (part 0 8 bytes) certificate_title) Magic (wants (eqb (get_or bytes 8 0) 1) Version >>= λ known. set_at (part 9 4 bytes) >>= λ set. profile_at (get_or bytes 13 0) >>= λ profile. Ok (family_of set profile)) family a.1 in
    let c = wants_ok (eqb (get_or bytes 8 0) 1) Version (set_at (part 9 4 bytes) >>= λ set. profile_at (get_or bytes 13 0) >>= λ profile. Ok (family_of set profile)) family b.1 in
    let s = bind_ok (set_at (part 9 4 bytes)) (λ set. profile_at (get_or bytes 13 0) >>= λ profile. Ok (family_of set profile)) family c.1 in
    let p = bind_ok (profile_at (get_or bytes 13 0)) (λ profile. Ok (family_of s.0 profile)) family s.2 in
    let long : 28 ≤ length bytes = leb-true 28 (length bytes) a.0 in
    subst (NamesFamily bytes) (ok_is (family_of s.0 p.0) family p.2) (record {
      long = long;
      titled = same_is (part 0 8 bytes) certificate_title b.0;
      known = eqb-true (get_or bytes 8 0) 1 c.0;
      set = set_takes (part 9 4 bytes) s.0 (part_long 9 4 bytes (omega (arith, long))) s.1;
      profile = profile_takes (get_or bytes 13 0) p.0 p.1;
    })

abbrev front_made : List ℕ → Family → Claim → FrontContent
front_made bytes family claim = record { family = family; root = word 14 bytes; claim = claim; lost_count = word 20 bytes; held_count = word 24 bytes }

pub front_takes : (bytes : List ℕ) (f : FrontContent) → IsBytes bytes → front_at bytes ≡ Ok f → (bytes ≡ front_text f (drop 28 bytes)) × FitsFront f
unfolding front_at
front_takes bytes f fits e =
    let a = bind_ok (family_at bytes) (λ family. wants (ltb (word 14 bytes) (classes_of family)) RootClass >>= λ root. claim_at (get_or bytes 18 0) (get_or bytes 19 0) >>= λ claim. wants (leb (word 20 bytes) (classes_of family)) EntryCount >>= λ lost. wants (leb (word 24 bytes) (classes_of family)) EntryCount >>= λ held. Ok (front_made bytes family claim)) f e in
    let family : Family = a.0 in
    let b = wants_ok (ltb (word 14 bytes) (classes_of family)) RootClass (claim_at (get_or bytes 18 0) (get_or bytes 19 0) >>= λ claim. wants (leb (word 20 bytes) (classes_of family)) EntryCount >>= λ lost. wants (leb (word 24 bytes) (classes_of family)) EntryCount >>= λ held. Ok (front_made bytes family claim)) f a.2 in
    let c = bind_ok (claim_at (get_or bytes 18 0) (get_or bytes 19 0)) (λ claim. wants (leb (word 20 bytes) (classes_of family)) EntryCount >>= λ lost. wants (leb (word 24 bytes) (classes_of family)) EntryCount >>= λ held. Ok (front_made bytes family claim)) f b.1 in
    let d = wants_ok (leb (word 20 bytes) (classes_of family)) EntryCount (wants (leb (word 24 bytes) (classes_of family)) EntryCount >>= λ held. Ok (front_made bytes family c.0)) f c.2 in
    let h = wants_ok (leb (word 24 bytes) (classes_of family)) EntryCount (Ok (front_made bytes family c.0)) f d.1 in
    let named = family_takes bytes family a.1 in
    let long : 28 ≤ length bytes = named.long in
    let claim = claim_takes (get_or bytes 18 0) (get_or bytes 19 0) c.0 c.1 in
    let parts : bytes ≡ front_text (front_made bytes family c.0) (drop 28 bytes) =
    cut 0 8 8 bytes certificate_title (omega arith) named.titled
    ∙ ap (λ (xs : List ℕ). certificate_title ++ xs) (cut 8 1 9 bytes (1 ∷ []) (omega arith) (one_cell 8 bytes (omega (arith, long)) ∙ ap (λ (n : ℕ). n ∷ []) named.known)
    ∙ ap (λ (xs : List ℕ). 1 ∷ xs) (cut 9 4 13 bytes (set_bytes family.set) (omega arith) named.set
    ∙ ap (λ (xs : List ℕ). set_bytes family.set ++ xs) (cut 13 1 14 bytes (profile_number family.profile ∷ []) (omega arith) (one_cell 13 bytes (omega (arith, long)) ∙ ap (λ (n : ℕ). n ∷ []) named.profile)
    ∙ ap (λ (xs : List ℕ). profile_number family.profile ∷ xs) (cut 14 4 18 bytes (little_bytes 4 (word 14 bytes)) (omega arith) (word_back (part 14 4 bytes) (part_long 14 4 bytes (omega (arith, long))) (part_fits 14 4 bytes fits))
    ∙ ap (λ (xs : List ℕ). little_bytes 4 (word 14 bytes) ++ xs) (cut 18 2 20 bytes (claim_bytes c.0) (omega arith) (two_cells 18 bytes (omega (arith, long)) ∙ sym claim.0)
    ∙ ap (λ (xs : List ℕ). claim_bytes c.0 ++ xs) (cut 20 4 24 bytes (little_bytes 4 (word 20 bytes)) (omega arith) (word_back (part 20 4 bytes) (part_long 20 4 bytes (omega (arith, long))) (part_fits 20 4 bytes fits))
    ∙ ap (λ (xs : List ℕ). little_bytes 4 (word 20 bytes) ++ xs) (cut 24 4 28 bytes (little_bytes 4 (word 24 bytes)) (omega arith) (word_back (part 24 4 bytes) (part_long 24 4 bytes (omega (arith, long))) (part_fits 24 4 bytes fits))))))))) in
    let right : FitsFront (front_made bytes family c.0) = record { root = ltb-true (word 14 bytes) (classes_of family) b.0; claim = claim.1; lost = leb-true (word 20 bytes) (classes_of family) d.0; held = leb-true (word 24 bytes) (classes_of family) h.0 } in
    subst (λ (g : FrontContent). (bytes ≡ front_text g (drop 28 bytes)) × FitsFront g) (ok_is (front_made bytes family c.0) f h.1) (parts, right)

-- ---- the front of what was written
family_again : (bytes : List ℕ) (family : Family) → NamesFamily bytes family → family_at bytes ≡ Ok family
unfolding family_at
family_again bytes family named = grind (arith, is_same, set_again, profile_again)

front_of_parts : (bytes : List ℕ) (f : FrontContent) → NamesFamily bytes f.family → word 14 bytes ≡ f.root → claim_at (get_or bytes 18 0) (get_or bytes 19 0) ≡ Ok f.claim
    → word 20 bytes ≡ f.lost_count → word 24 bytes ≡ f.held_count → FitsFront f → front_at bytes ≡ Ok f
unfolding front_at
front_of_parts bytes f named root claim lost held right =
    let known = lt-ltb f.root (classes_of f.family) right.root in
    let few_lost = le-leb f.lost_count (classes_of f.family) right.lost in
    let few_held = le-leb f.held_count (classes_of f.family) right.held in
    rw (family_again bytes f.family named, root, claim, lost, held, known, few_lost, few_held) refl

claim_again : (claim : Claim) → FitsClaim claim → (kind : ℕ) × (plies : ℕ) × (claim_bytes claim ≡ kind ∷ plies ∷ []) × (claim_at kind plies ≡ Ok claim)
claim_again (Exactly Draw) fits = (0, 0, refl, refl)
claim_again (Exactly (Win plies)) fits = (1, plies, refl, rw (lt-ltb plies 255 fits) refl)
claim_again (Exactly (Loss plies)) fits = (2, plies, refl, rw (lt-ltb plies 255 fits) refl)
claim_again (WonWithin plies) fits = (3, plies, refl, rw (lt-ltb plies 255 fits) refl)
claim_again (LostWithin plies) fits = (4, plies, refl, rw (lt-ltb plies 255 fits) refl)

abbrev cells : FrontContent → ℕ → ℕ → List ℕ → List ℕ
cells f kind plies rest = certificate_title ++ 1 ∷ (set_bytes f.family.set ++ profile_number f.family.profile ∷ (little_bytes 4 f.root ++ (kind ∷ plies ∷
    (little_bytes 4 f.lost_count ++ (little_bytes 4 f.held_count ++ rest)))))

cells_again : (f : FrontContent) (kind plies : ℕ) (rest : List ℕ) → claim_at kind plies ≡ Ok f.claim → FitsFront f → f.root < 4294967296 → f.lost_count < 4294967296 → f.held_count < 4294967296
    → (front_at (cells f kind plies rest) ≡ Ok f) × (drop 28 (cells f kind plies rest) ≡ rest)
cells_again f kind plies rest claim right root lost held =
    let named : NamesFamily (cells f kind plies rest) f.family = record { long = omega arith; titled = refl; known = refl; set = refl; profile = refl } in (
      front_of_parts (cells f kind plies rest) f named (little_number-reads_back 4 f.root [] root) claim
          (little_number-reads_back 4 f.lost_count [] lost) (little_number-reads_back 4 f.held_count [] held) right,
      refl,
    )

pub front_again : (f : FrontContent) (rest : List ℕ) → FitsFront f → (front_at (front_text f rest) ≡ Ok f) × (drop 28 (front_text f rest) ≡ rest)
front_again f rest right =
    let few = classes_of-below f.family in
    let found = claim_again f.claim right.claim in
    let again = cells_again f found.0 found.1 rest found.3 right (omega (arith, few, right.root)) (omega (arith, few, right.lost))
    (omega (arith, few, right.held)) in
    let text : front_text f rest ≡ cells f found.0 found.1 rest = ap (λ (x : List ℕ). certificate_title ++ 1 ∷ (set_bytes f.family.set ++ profile_number f.family.profile ∷ (little_bytes 4 f.root ++ (x
    ++ (little_bytes 4 f.lost_count ++ (little_bytes 4 f.held_count ++ rest)))))) found.2 in
    (ap front_at text ∙ again.0, ap (drop 28) text ∙ again.1)
