-- The bytes of a table's file, part after part.
use Rattle.dob_dbfile.proofs.Common.{◌*◌, ◌++◌, ◌+◌, ◌∙◌, ◌≡◌, List, ap, append_assoc, arith, drop, inl, inr, length, refl, sym, take, ℕ, drop_at}
use Rattle.dob_dbfile.proofs.Common.{length-append, length-map, take_at, sha256, Family, Profile, A, value_of_code, values_of_codes, ClassTable, class_table}
use Rattle.dob_dbfile.proofs.Common.{header_len, IsFile, bytes_in, code_bytes, front_of, header_in, records, contents_in, digest_of, Format, First, Second}
use Rattle.dob_dbfile.proofs.CodeBytes.{records-codes, length-records}

-- what stands before the digest
pub header_records : (format : Format) (table : ClassTable) → header_in format table ++ records table.values ≡ contents_in format table
unfolding contents_in
header_records format table = refl

-- header, records and digest
pub file_parts : (format : Format) (table : ClassTable)
    → bytes_in format table ≡ header_in format table ++ (records table.values ++ sha256 (contents_in format table))
file_parts format table =
    ap (λ (front : List ℕ). front ++ sha256 (contents_in format table)) (sym (header_records format table))
    ∙ append_assoc (header_in format table) (records table.values) (sha256 (contents_in format table))

-- the same where the header's bytes were put in a piece
pub parts_after : (table : ClassTable) (piece : List ℕ) → piece ≡ header_in Second table
    → bytes_in Second table ≡ piece ++ (records table.values ++ sha256 (contents_in Second table))
parts_after table piece is = file_parts Second table ∙ ap (λ (h : List ℕ). h ++ (records table.values ++ sha256 (contents_in Second table))) (sym is)

-- what is named of the family and the number of classes is the header's
pub header_is : (table : ClassTable) (family : Family) (count : ℕ) → family ≡ table.family → count ≡ length table.values
    → front_of family count ≡ header_in Second table
header_is table family count named counted = ap (λ (f : Family). front_of f count) named ∙ ap (front_of table.family) counted

-- the digest ends the file
pub digest_is : (table : ClassTable) → digest_of table ≡ sha256 (contents_in Second table)
unfolding digest_of
digest_is table = refl

-- the digest of the header and of the records that the codes are
pub digest_of_codes : (family : Family) (codes : List ℕ)
    → sha256 (front_of family (length codes) ++ code_bytes codes) ≡ digest_of (class_table family (values_of_codes codes))
digest_of_codes family codes =
    let table : ClassTable = class_table family (values_of_codes codes) in
    ap (λ (count : ℕ). sha256 (front_of family count ++ code_bytes codes)) (sym (length-map codes value_of_code))
    ∙ ap (λ (body : List ℕ). sha256 (header_in Second table ++ body)) (sym (records-codes codes))
    ∙ ap sha256 (header_records Second table)
    ∙ sym (digest_is table)

pub length-header : (format : Format) (table : ClassTable) → length (header_in format table) ≡ header_len format
length-header First table = refl
length-header Second table = refl

pub header-front : (format : Format) (table : ClassTable) → take (header_len format) (bytes_in format table) ≡ header_in format table
header-front format table = grind (arith, file_parts, take_at, length-header)

pub after_header : (format : Format) (table : ClassTable)
    → drop (header_len format) (bytes_in format table) ≡ records table.values ++ sha256 (contents_in format table)
after_header format table = grind (arith, file_parts, length-header)

pub contents-rest : (format : Format) (table : ClassTable) → drop (header_len format) (contents_in format table) ≡ records table.values
contents-rest format table =
    ap (drop (header_len format)) (sym (header_records format table))
    ∙ drop_at (header_in format table) (records table.values) (header_len format) (length-header format table)

pub length-contents : (format : Format) (table : ClassTable) → length (contents_in format table) ≡ header_len format + 2 * length table.values
length-contents format table =
    let all : length (contents_in format table) ≡ length (header_in format table ++ records table.values) = ap length (sym (header_records format table)) in
    let both : length (header_in format table ++ records table.values) ≡ length (header_in format table) + length (records table.values)
    = length-append (header_in format table) (records table.values) in
    let front : length (header_in format table) ≡ header_len format = length-header format table in
    let body : length (records table.values) ≡ 2 * length table.values = length-records table.values in
    omega (arith, all, both, front, body)

-- ---- the format of a file

-- a table of the profile has a file in the format
abbrev pub Tells : Format → Profile → Type 0
Tells First profile = profile ≡ A
Tells Second profile = Unit {0}

-- the format of a file
pub record IsFileIn (format : Format) (bytes : List ℕ) (table : ClassTable) : Type 0 where
  pub tells : Tells format table.family.profile
  pub same : bytes ≡ bytes_in format table

pub format_of : (bytes : List ℕ) (table : ClassTable) → IsFile bytes table → (format : Format) × IsFileIn format bytes table
format_of bytes table (inl same) = (Second, record { tells = tt; same = same })
format_of bytes table (inr first) = (First, record { tells = first.0; same = first.1 })

pub is_file : (format : Format) (bytes : List ℕ) (table : ClassTable) → IsFileIn format bytes table → IsFile bytes table
is_file First bytes table file = inr (file.tells, file.same)
is_file Second bytes table file = inl file.same
