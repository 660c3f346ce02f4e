-- What the steps of reading say of the whole stream.
use Rattle.dob_dbfile.proofs.Common.{◌*◌, ◌++◌, ◌+◌, ◌<◌, ◌∙◌, ◌≡◌, ◌≤◌, ◌⊎◌, List, ap, append-nil, append_assoc, arith, drop, inl, inr, length, length-drop}
use Rattle.dob_dbfile.proofs.Common.{length-take-le, refl, subst, sym, take, take-add, ℕ, cases_lt, drop-drop, length-map, take-append-drop, sha256, Family}
use Rattle.dob_dbfile.proofs.Common.{Profile, classes_of, value_of_code, values_of_codes, ClassTable, class_table, Stream, after, CountsClasses, HasDigest}
use Rattle.dob_dbfile.proofs.Common.{HasReadFault, SaysProfile, contents_len, file_len, header_len, IsFile, bytes_in, count_bytes, header_in, profile_bytes}
use Rattle.dob_dbfile.proofs.Common.{records, set_bytes, title, contents_in, EndsWith, HasRestFault, TakesBytes, Fault, Format, First, Second}
use Rattle.dob_dbfile.specs.Faults.{IsNoLonger, IsCutShort}
use Rattle.dob_dbfile.proofs.CodeBytes.{records-codes}
use Rattle.dob_dbfile.proofs.Headers.{header_short}
use Rattle.dob_dbfile.proofs.FileBytes.{Tells, header_records, is_file}
use Rattle.dob_dbfile.specs.declared.fault.Fault.TheVariants as fault

-- the fault holds, or memory was refused
abbrev pub IsFault : Stream → Fault → Type 0
IsFault stream given = (given ≡ fault.Memory) ⊎ HasReadFault stream given

-- what stands before the records
abbrev pub front : Format → Stream → List ℕ
front format stream = take (header_len format) stream.bytes

-- the header is there
pub there : (stream : Stream) (format : Format) (family : Family) → CountsClasses format family stream.bytes → header_len format ≤ length stream.bytes
there stream format family counts = counts.0.0.1

-- the header that was read
pub head_is : (stream : Stream) (format : Format) (h : ℕ) (room : List ℕ) → length room ≡ 21 → h ≡ header_len format
    → TakesBytes stream (take (header_len format) room) → take h room ≡ front format stream
head_is stream format h room long same taken =
    ap (λ (n : ℕ). take n room) same
    ∙ taken.same
    ∙ ap (λ (n : ℕ). take n stream.bytes) (length-take-le (header_len format) room (omega (arith, header_short format, long)))

-- how long the stream is, by what comes after the header
rest_len : (stream : Stream) (format : Format) → header_len format ≤ length stream.bytes
    → header_len format + length (drop (header_len format) stream.bytes) ≡ length stream.bytes
rest_len stream format le = omega (arith, length-drop (header_len format) stream.bytes, le)

cut_short : (stream : Stream) (format : Format) (family : Family) → CountsClasses format family stream.bytes
    → length (drop (header_len format) stream.bytes) < 2 * classes_of family + 32 → IsCutShort stream
cut_short stream format family is short =
    let len = rest_len stream format (there stream format family is) in
    inr (format, family, is, λ enough. let le : file_len format family ≤ length stream.bytes = enough.1 in omega (arith, le, len, short))

no_longer : (stream : Stream) (format : Format) (family : Family) → CountsClasses format family stream.bytes
    → length (drop (header_len format) stream.bytes) ≡ 2 * classes_of family + 32 → IsNoLonger format family stream
no_longer stream format family is exact =
    let len = rest_len stream format (there stream format family is) in ((is, omega (arith, len, exact)), omega (arith, len, exact))

-- the digest and what stands before it, by what comes after the header
digest_at : (stream : Stream) (format : Format) (family : Family)
    → drop (2 * classes_of family) (drop (header_len format) stream.bytes) ≡ drop (contents_len format family) stream.bytes
digest_at stream format family = drop-drop (2 * classes_of family) (header_len format) stream.bytes

before_digest : (stream : Stream) (format : Format) (family : Family)
    → front format stream ++ take (2 * classes_of family) (drop (header_len format) stream.bytes) ≡ take (contents_len format family) stream.bytes
before_digest stream format family = sym (take-add (header_len format) (2 * classes_of family) stream.bytes)

-- what is wrong after a header that is right
pub rest_fault : (stream : Stream) (format : Format) (family : Family) (given : Fault) → CountsClasses format family stream.bytes
    → HasRestFault (front format stream) (classes_of family) (after (header_len format) stream) given → IsFault stream given
rest_fault stream format family fault.Trailing is wrong =
    let len = rest_len stream format (there stream format family is) in
    inr (
      format,
      family,
      (is, omega (arith, len, wrong)),
      λ upto. let le : length stream.bytes ≤ file_len format family = upto.1 in omega (arith, le, len, wrong),
    )
rest_fault stream format family fault.Digest is wrong = inr (
  format,
  family,
  (no_longer stream format family is wrong.0, wrong.1),
  λ right. wrong.2 (digest_at stream format family ∙ right.1 ∙ ap sha256 (sym (before_digest stream format family))),
)
rest_fault stream format family (fault.Io count) is wrong =
    let le = there stream format family is in
    let len = rest_len stream format le in
    let long : length (front format stream) ≡ header_len format = length-take-le (header_len format) stream.bytes le in
    inr (
      omega (arith, len, wrong.2, long),
      wrong.1,
      elim (cases_lt (length (drop (header_len format) stream.bytes)) (2 * classes_of family + 32)) [
        | inl short ↦ inl (cut_short stream format family is short)
        | inr enough ↦ inr (format, family, no_longer stream format family is (omega (arith, wrong.0, enough)))
      ],
    )
rest_fault stream format family fault.Truncated is wrong = inr (cut_short stream format family is wrong.0, wrong.1)
rest_fault stream format family fault.Memory is wrong = inl refl
rest_fault stream format family _ is wrong = absurd wrong

-- ---- a file that is right

-- the parts of a header, one after the other
first_parts : (bytes t s c : List ℕ) → take 8 bytes ≡ t → take 4 (drop 8 bytes) ≡ s → take 8 (drop 12 bytes) ≡ c → take 20 bytes ≡ t ++ (s ++ c)
first_parts bytes t s c at_title at_set at_count =
    take-add 8 12 bytes
    ∙ ap (λ (x : List ℕ). x ++ take 12 (drop 8 bytes)) at_title
    ∙ ap (λ (x : List ℕ). t ++ x) (take-add 4 8 (drop 8 bytes)
    ∙ ap (λ (x : List ℕ). x ++ take 8 (drop 4 (drop 8 bytes))) at_set
    ∙ ap (λ (x : List ℕ). s ++ x) (ap (take 8) (drop-drop 4 8 bytes) ∙ at_count))

second_parts : (bytes t s p c : List ℕ) → take 8 bytes ≡ t → take 4 (drop 8 bytes) ≡ s → take 1 (drop 12 bytes) ≡ p → take 8 (drop 13 bytes) ≡ c
    → take 21 bytes ≡ t ++ (s ++ (p ++ c))
second_parts bytes t s p c at_title at_set at_profile at_count =
    take-add 8 13 bytes
    ∙ ap (λ (x : List ℕ). x ++ take 13 (drop 8 bytes)) at_title
    ∙ ap (λ (x : List ℕ). t ++ x) (take-add 4 9 (drop 8 bytes)
    ∙ ap (λ (x : List ℕ). x ++ take 9 (drop 4 (drop 8 bytes))) at_set
    ∙ ap (λ (x : List ℕ). s ++ x) (ap (take 9) (drop-drop 4 8 bytes)
    ∙ take-add 1 8 (drop 12 bytes)
    ∙ ap (λ (x : List ℕ). x ++ take 8 (drop 1 (drop 12 bytes))) at_profile
    ∙ ap (λ (x : List ℕ). p ++ x) (ap (take 8) (drop-drop 1 12 bytes) ∙ at_count)))

header_parts : (format : Format) (family : Family) (bytes : List ℕ) → CountsClasses format family bytes
    → take (header_len format) bytes ≡ title format ++ set_bytes family.set ++ profile_bytes format family.profile ++ count_bytes (classes_of family)
header_parts First family bytes counts =
    let t = title First in
    let s = set_bytes family.set in
    let c = count_bytes (classes_of family) in
    first_parts bytes t s c counts.0.0.0.0.1 counts.0.0.0.1 counts.1
    ∙ sym (append_assoc t s c)
    ∙ ap (λ (x : List ℕ). x ++ c) (sym (append-nil (t ++ s)))
header_parts Second family bytes counts =
    let t = title Second in
    let s = set_bytes family.set in
    let p = profile_bytes Second family.profile in
    let c = count_bytes (classes_of family) in
    second_parts bytes t s p c counts.0.0.0.0.1 counts.0.0.0.1 counts.0.1 counts.1
    ∙ sym (append_assoc t s (p ++ c))
    ∙ sym (append_assoc (t ++ s) p c)

tells : (format : Format) (profile : Profile) (bytes : List ℕ) → SaysProfile format profile bytes → Tells format profile
tells First profile bytes says = says
tells Second profile bytes says = tt

-- it is that of its table
pub right_file : (stream : Stream) (format : Format) (family : Family) (codes : List ℕ) → CountsClasses format family stream.bytes
    → length codes ≡ classes_of family → EndsWith (front format stream) codes (after (header_len format) stream)
    → IsFile stream.bytes (class_table family (values_of_codes codes))
right_file stream format family codes counts counted ends =
    let table : ClassTable = class_table family (values_of_codes codes) in
    let rest : List ℕ = drop (header_len format) stream.bytes in
    let same_count : classes_of family ≡ length (values_of_codes codes) = sym (length-map codes value_of_code ∙ counted) in
    let head : front format stream ≡ header_in format table =
    header_parts format family stream.bytes counts
    ∙ ap (λ (n : ℕ). title format ++ set_bytes family.set ++ profile_bytes format family.profile ++ count_bytes n) same_count in
    let body : front format stream ++ take (2 * length codes) rest ≡ contents_in format table =
    ap (λ (part : List ℕ). front format stream ++ part) (sym ends.records ∙ sym (records-codes codes))
    ∙ ap (λ (part : List ℕ). part ++ records table.values) head
    ∙ header_records format table in
    let bytes : stream.bytes ≡ bytes_in format table =
    sym (take-append-drop (header_len format) stream.bytes)
    ∙ ap (λ (part : List ℕ). front format stream ++ part) (sym (take-append-drop (2 * length codes) rest))
    ∙ sym (append_assoc (front format stream) (take (2 * length codes) rest) (drop (2 * length codes) rest))
    ∙ ap (λ (part : List ℕ). front format stream ++ take (2 * length codes) rest ++ part) ends.digest
    ∙ ap (λ (part : List ℕ). part ++ sha256 part) body in
    is_file format stream.bytes table (record { tells = tells format family.profile stream.bytes counts.0.1; same = bytes })

-- and passes all tests
pub right_digest : (stream : Stream) (format : Format) (family : Family) (codes : List ℕ) → CountsClasses format family stream.bytes
    → length codes ≡ classes_of family → EndsWith (front format stream) codes (after (header_len format) stream) → HasDigest format family stream
right_digest stream format family codes counts counted ends =
    let rest : List ℕ = drop (header_len format) stream.bytes in (
      (no_longer stream format family counts (omega (arith, ends.whole, counted)), ends.ends),
      sym (digest_at stream format family)
          ∙ subst (λ (n : ℕ). drop (2 * n) rest ≡ sha256 (front format stream ++ take (2 * n) rest)) counted ends.digest
          ∙ ap sha256 (before_digest stream format family),
    )
