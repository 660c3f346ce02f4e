-- A file that is read is the one that was written, what was written is read again, and what a reader says of the bytes.
use Rattle.dob_certfile.proofs.Common.{ListKind, Lost, Held, ◌++◌, ◌-◌, ◌<◌, ◌∙◌, ◌≡◌, ◌≤◌, ◌⊎◌, Err, List, Ok, Result, ap, append_assoc, arith, drop, inl, inr, length, refl, subst}
use Rattle.dob_certfile.proofs.Common.{sym, take, true, ℕ, le-leb, length-append, take_at, IfErr, IfOk, little_bytes, classes_of-below, classes_of}
use Rattle.dob_certfile.proofs.Common.{AreAscending, Entry, Content, FitEntries, Fits, bytes_of, content, head_bytes, contents_of, entries_bytes, ◌>>=◌}
use Rattle.dob_certfile.proofs.Common.{FrontContent, HasCertFault, MayGive, entries_at, file_at, front_at, seal_at, Defect, Digest}
use Rattle.std.specs.Prelude.{bytes_eq}
use Rattle.sha2.specs.Sha256.{sha256}
use Rattle.sha2.proofs.Facts256.{length-sha256}
use Rattle.dob_certfile.specs.declared.defect.ReadFault.{ReadFault}
use Rattle.dob_certfile.specs.declared.defect.ReadFault.TheVariants as faults
use Rattle.dob_certfile.specs.declared.file.CertificateFile.{CertificateFile}
use Rattle.dob_certfile.proofs.Fields.{IsBytes, IsBytes-drop, bind_ok, ok_is, same_is, is_same, not_same}
use Rattle.dob_certfile.proofs.Lists.{entries_take, entries_again, rise_fit, rise_count, rise_ascends, fit_rises, starts_anywhere}
use Rattle.dob_certfile.proofs.Fronts.{FitsFront, front_text, front_takes, front_again}

-- ---- the digest
seal_takes : (bytes rest : List ℕ) (done : Unit {0}) → seal_at bytes rest ≡ Ok done → (length rest ≡ 32) × (rest ≡ sha256 (take (length bytes - 32) bytes))
unfolding seal_at
seal_takes bytes rest done e = grind (arith, same_is)

-- the contents with their digest
seal_again : (contents rest : List ℕ) → length rest ≡ 32 → rest ≡ sha256 contents → seal_at (contents ++ rest) rest ≡ Ok tt
unfolding seal_at
seal_again contents rest long is =
    let whole = le-leb 32 (length rest) (omega (arith, long)) in
    let ends = le-leb (length rest) 32 (omega (arith, long)) in
    let before : length (contents ++ rest) - 32 ≡ length contents = omega (arith, length-append contents rest, long) in
    let cut : take (length (contents ++ rest) - 32) (contents ++ rest) ≡ contents = ap (λ (n : ℕ). take n (contents ++ rest)) before ∙ take_at contents rest (length contents) refl in
    let same : bytes_eq rest (sha256 (take (length (contents ++ rest) - 32) (contents ++ rest))) ≡ true = is_same rest _ (is ∙ ap sha256 (sym cut)) in
    rw (whole, ends, same) refl

regroup : (o a b c d e : List ℕ) → ((((o ++ a) ++ b) ++ c) ++ d) ++ e ≡ o ++ (a ++ (b ++ (c ++ (d ++ e))))
regroup o a b c d e = simp append_assoc

-- what is found of the digest that stands there
pub seal_right : (bytes rest digest : List ℕ) (n : ℕ) → n ≡ length bytes - 32 → digest ≡ sha256 (take n bytes) → 32 ≤ length rest → length rest ≤ 32 → rest ≡ digest
    → Ok tt ≡ seal_at bytes rest
unfolding seal_at
seal_right bytes rest digest n at is low high same = grind (arith, is_same)

pub seal_wrong : (bytes rest digest : List ℕ) (n : ℕ) → n ≡ length bytes - 32 → digest ≡ sha256 (take n bytes) → 32 ≤ length rest → length rest ≤ 32 → (rest ≡ digest → ⊥)
    → Err Digest ≡ seal_at bytes rest
unfolding seal_at
seal_wrong bytes rest digest n at is low high other = grind (arith, not_same)

-- ---- the whole file
abbrev filed : FrontContent → List Entry → List Entry → Content
filed f lost held = record { family = f.family; root = f.root; claim = f.claim; lost = lost; held = held }

-- the contents, and what comes after them
joined : (c : Content) (rest : List ℕ) → contents_of c ++ rest
    ≡ front_text (record { family = c.family; root = c.root; claim = c.claim; lost_count = length c.lost; held_count = length c.held }) ((entries_bytes 0 c.lost ++ entries_bytes 0 c.held) ++ rest)
unfolding contents_of
joined c rest = grind arith

-- ---- reading again
pub few_entries : (kind : ListKind) (classes : ℕ) (entries : List Entry) → FitEntries kind classes entries → length entries ≤ classes
few_entries kind classes entries fits = omega (arith, rise_count kind classes 0 entries (fit_rises kind classes 0 entries fits (starts_anywhere entries)) (omega arith))

pub file_again : (c : Content) → Fits c → file_at (bytes_of c) ≡ Ok c
unfolding file_at
file_again c fits =
    let long : length (sha256 (contents_of c)) ≡ 32 = length-sha256 (contents_of c) in
    let classes : ℕ = classes_of c.family in
    let small : classes < 2147483648 = classes_of-below c.family in
    let f : FrontContent = record { family = c.family; root = c.root; claim = c.claim; lost_count = length c.lost; held_count = length c.held } in
    let digest : List ℕ = sha256 (contents_of c) in
    let rest : List ℕ = (entries_bytes 0 c.lost ++ entries_bytes 0 c.held) ++ digest in
    let right : FitsFront f = record { root = fits.root; claim = fits.claim; lost = few_entries Lost classes c.lost fits.lost; held = few_entries Held classes c.held fits.held } in
    let text : bytes_of c ≡ front_text f rest = joined c digest in
    let front = front_again f rest right in
    let regrouped : rest ≡ entries_bytes 0 c.lost ++ (entries_bytes 0 c.held ++ digest) = append_assoc (entries_bytes 0 c.lost) (entries_bytes 0 c.held) digest in
    let lost : entries_at Lost classes 0 (length c.lost) rest ≡ Ok (c.lost, entries_bytes 0 c.held ++ digest) =
    ap (entries_at Lost classes 0 (length c.lost)) regrouped ∙ entries_again Lost classes 0 c.lost (entries_bytes 0 c.held ++ digest) small (fit_rises Lost classes 0 c.lost fits.lost (starts_anywhere c.lost)) in
    let held : entries_at Held classes 0 (length c.held) (entries_bytes 0 c.held ++ digest) ≡ Ok (c.held, digest) =
    entries_again Held classes 0 c.held digest small (fit_rises Held classes 0 c.held fits.held (starts_anywhere c.held)) in
    let seal : seal_at (bytes_of c) digest ≡ Ok tt = seal_again (contents_of c) digest long refl in
    let front_is : front_at (bytes_of c) ≡ Ok f = ap front_at text ∙ front.0 in
    let rest_is : drop 28 (bytes_of c) ≡ rest = ap (drop 28) text ∙ front.1 in
    rw (front_is, rest_is, lost, held, seal) refl

pub file_takes : (bytes : List ℕ) (c : Content) → IsBytes bytes → file_at bytes ≡ Ok c → Fits c × (bytes ≡ bytes_of c)
unfolding file_at contents_of
file_takes bytes c fits e =
    let a = bind_ok (front_at bytes) (λ front. entries_at Lost (classes_of front.family) 0 front.lost_count (drop 28 bytes) >>= λ lost. entries_at Held (classes_of front.family) 0 front.held_count lost.1 >>= λ held. seal_at bytes held.1 >>= λ sealed. Ok (filed front lost.0 held.0)) c e in
    let f : FrontContent = a.0 in
    let classes : ℕ = classes_of f.family in
    let l = bind_ok (entries_at Lost classes 0 f.lost_count (drop 28 bytes)) (λ lost. entries_at Held classes 0 f.held_count lost.1 >>= λ held. seal_at bytes held.1 >>= λ sealed. Ok (filed f lost.0 held.0)) c a.2 in
    let h = bind_ok (entries_at Held classes 0 f.held_count l.0.1) (λ held. seal_at bytes held.1 >>= λ sealed. Ok (filed f l.0.0 held.0)) c l.2 in
    let s = bind_ok (seal_at bytes h.0.1) (λ sealed. Ok (filed f l.0.0 h.0.0)) c h.2 in
    let front = front_takes bytes f fits a.1 in
    let lost = entries_take Lost classes 0 f.lost_count (drop 28 bytes) l.0 (IsBytes-drop 28 bytes fits) l.1 in
    let held = entries_take Held classes 0 f.held_count l.0.1 h.0 lost.0.rest_fits h.1 in
    let seal = seal_takes bytes h.0.1 s.0 s.1 in
    let made : Content = filed f l.0.0 h.0.0 in
    let entries : drop 28 bytes ≡ (entries_bytes 0 l.0.0 ++ entries_bytes 0 h.0.0) ++ h.0.1 =
    lost.0.parts ∙ ap (λ (x : List ℕ). entries_bytes 0 l.0.0 ++ x) held.0.parts ∙ sym (append_assoc (entries_bytes 0 l.0.0) (entries_bytes 0 h.0.0) h.0.1) in
    let parts : bytes ≡ contents_of made ++ h.0.1 =
    front.0
    ∙ ap (front_text f) entries
    ∙ ap (λ (n : ℕ). front_text (record { family = f.family; root = f.root; claim = f.claim; lost_count = n; held_count = f.held_count }) ((entries_bytes 0 l.0.0 ++ entries_bytes 0 h.0.0) ++ h.0.1)) (sym lost.1)
    ∙ ap (λ (n : ℕ). front_text (record { family = f.family; root = f.root; claim = f.claim; lost_count = length l.0.0; held_count = n }) ((entries_bytes 0 l.0.0 ++ entries_bytes 0 h.0.0) ++ h.0.1)) (sym held.1)
    ∙ sym (joined made h.0.1) in
    let long : length bytes - 32 ≡ length (contents_of made) = omega (arith, ap length parts, length-append (contents_of made) h.0.1, seal.0) in
    let before : take (length bytes - 32) bytes ≡ contents_of made =
    ap (λ (n : ℕ). take n bytes) long ∙ ap (λ (x : List ℕ). take (length (contents_of made)) x) parts ∙ take_at (contents_of made) h.0.1 (length (contents_of made)) refl in
    let whole : bytes ≡ bytes_of made = parts ∙ ap (λ (x : List ℕ). contents_of made ++ x) (seal.1 ∙ ap sha256 before) in
    let right : Fits made = record {
      root = front.1.root;
      claim = front.1.claim;
      lost = (rise_ascends Lost classes 0 l.0.0 lost.2, rise_fit Lost classes 0 l.0.0 lost.2);
      held = (rise_ascends Held classes 0 h.0.0 held.2, rise_fit Held classes 0 h.0.0 held.2);
    } in
    subst (λ (d : Content). Fits d × (bytes ≡ bytes_of d)) (ok_is made c s.2) (right, whole)

-- ---- what is written, piece by piece
pub pieces : (c : Content) (lost held : List Entry) (old n1 n2 n3 n4 n5 : List ℕ) → lost ≡ c.lost → held ≡ c.held → n1 ≡ old ++ head_bytes c
    → n2 ≡ n1 ++ little_bytes 4 (length lost) → n3 ≡ n2 ++ little_bytes 4 (length held) → n4 ≡ n3 ++ entries_bytes 0 lost → n5 ≡ n4 ++ entries_bytes 0 held
    → n5 ≡ old ++ contents_of c
unfolding contents_of
pieces c lost held old n1 n2 n3 n4 n5 is_lost is_held e1 e2 e3 e4 e5 =
    let a : List ℕ = head_bytes c in
    let b : List Entry → List ℕ = λ xs. little_bytes 4 (length xs) in
    let d : List Entry → List ℕ = λ xs. entries_bytes 0 xs in
    e5
    ∙ ap (λ (x : List ℕ). x ++ d held) (e4 ∙ ap (λ (x : List ℕ). x ++ d lost) (e3 ∙ ap (λ (x : List ℕ). x ++ b held) (e2 ∙ ap (λ (x : List ℕ). x ++ b lost) e1)))
    ∙ regroup old a (b lost) (b held) (d lost) (d held)
    ∙ ap (λ (xs : List Entry). old ++ (a ++ (b xs ++ (b held ++ (d xs ++ d held))))) is_lost
    ∙ ap (λ (xs : List Entry). old ++ (a ++ (b c.lost ++ (b xs ++ (d c.lost ++ d xs))))) is_held

-- ---- what a reader says of the bytes
pub is_found : (bytes : List ℕ) (r : Result CertificateFile ReadFault) → IsBytes bytes → MayGive content r (file_at bytes) → IfOk r (λ file. Fits (content file) × (bytes ≡ bytes_of (content file)))
is_found bytes (Ok file) fits given = file_takes bytes (content file) fits given
is_found bytes (Err e) fits given = tt

pub is_fault : (bytes : List ℕ) (r : Result CertificateFile ReadFault) → MayGive content r (file_at bytes)
    → IfErr r (λ given. (given ≡ faults.Memory) ⊎ ((defect : Defect) × (given ≡ faults.Defect defect) × HasCertFault bytes defect))
is_fault bytes (Ok file) given = tt
is_fault bytes (Err faults.Memory) given = inl refl
is_fault bytes (Err (faults.Defect defect)) given = inr (defect, refl, given)

-- entries that were read ascend
pub read_ascends : (kind : ListKind) (classes count : ℕ) (bytes rest : List ℕ) (entries : List Entry) → IsBytes bytes → entries_at kind classes 0 count bytes ≡ Ok (entries, rest) → AreAscending entries
read_ascends kind classes count bytes rest entries fits e = rise_ascends kind classes 0 entries (entries_take kind classes 0 count bytes (entries, rest) fits e).2
