-- A file of a table passes all tests, and is that of no other table.
use Rattle.dob_dbfile.proofs.Common.{◌*◌, ◌+◌, ◌∙◌, ◌≡◌, ◌≤◌, ◌⊎◌, Err, List, Ok, Result, ap, arith, drop, false, inl, inr, length, length-take, min, refl}
use Rattle.dob_dbfile.proofs.Common.{rules, subst, sym, take, ℕ, min-le_right, drop_at, length-append, take_at, sha256, Family, classes_of, ClassTable, IsTable}
use Rattle.dob_dbfile.proofs.Common.{class_table, Value, whole, CountsClasses, HasDigest, HasReadFault, NamesFamily, PassesAll, SaysProfile, contents_len}
use Rattle.dob_dbfile.proofs.Common.{count_place, header_len, IsFile, bytes_in, count_bytes, header_in, records, contents_in, Fault, Format, First, Second}
use Rattle.std.specs.Result.{IfOk, IfErr, MatchResult}
use Rattle.sha2.proofs.Facts256.{length-sha256}
use Rattle.dob_rank.proofs.OfFamilies.Present.{HasClasses-classes_of}
use Rattle.dob_value.proofs.ClassNumbers.{one_count}
use Rattle.dob_dbfile.proofs.CodeBytes.{same_records}
use Rattle.dob_dbfile.proofs.FileBytes.{Tells, IsFileIn, contents-rest, format_of, header-front, length-contents, length-header}
use Rattle.dob_dbfile.proofs.Headers.{counts_lifts, header_long}
use Rattle.dob_dbfile.proofs.Places.{same_head, no_fault}
use Rattle.dob_dbfile.specs.declared.fault.Fault.TheVariants as fault

-- how many classes a table has
pub table_classes : (table : ClassTable) → IsTable table.family table.values → length table.values ≡ classes_of table.family
table_classes table is = search (rules, one_count, HasClasses-classes_of)

-- its header says its profile
says : (format : Format) (table : ClassTable) → Tells format table.family.profile → SaysProfile format table.family.profile (header_in format table)
says First table tells = tells
says Second table tells = refl

-- and names its family
names_front : (format : Format) (table : ClassTable) → Tells format table.family.profile → NamesFamily format table.family (header_in format table)
names_front First table tells = ((((omega (arith, length-header First table), refl), refl), omega (arith, length-header First table)), says First table tells)
names_front Second table tells = ((((omega (arith, length-header Second table), refl), refl), omega (arith, length-header Second table)), says Second table tells)

count_front : (format : Format) (table : ClassTable) → take 8 (drop (count_place format) (header_in format table)) ≡ count_bytes (length table.values)
count_front First table = refl
count_front Second table = refl

-- a file of a table names its family, and counts its classes
pub counts_file : (format : Format) (bytes : List ℕ) (table : ClassTable) → IsFileIn format bytes table → IsTable table.family table.values
    → CountsClasses format table.family bytes
counts_file format bytes table file is =
    let family : Family = table.family in
    let counts : CountsClasses format family (header_in format table) = (
      names_front format table file.tells,
      count_front format table ∙ ap count_bytes (table_classes table is),
    ) in
    let front : take (header_len format) bytes ≡ header_in format table = ap (take (header_len format)) file.same ∙ header-front format table in
    let long : length (take (header_len format) bytes) ≡ header_len format = ap length front ∙ length-header format table in
    let there : header_len format ≤ length bytes =
    let cut : length (take (header_len format) bytes) ≡ min (header_len format) (length bytes) = length-take (header_len format) bytes in
    let least : min (header_len format) (length bytes) ≤ length bytes = min-le_right (header_len format) (length bytes) in
    omega (arith, cut, least, long) in
    counts_lifts (header_len format) bytes (header_long format) there format family (subst (CountsClasses format family) (sym front) counts)

-- a file of a table passes all tests
pub file_passes : (format : Format) (bytes : List ℕ) (table : ClassTable) → IsFileIn format bytes table → IsTable table.family table.values
    → HasDigest format table.family (whole bytes)
file_passes format bytes table file is =
    let counted : length table.values ≡ classes_of table.family = table_classes table is in
    let contents : List ℕ = contents_in format table in
    let digest : List ℕ = sha256 contents in
    let body : length contents ≡ contents_len format table.family = length-contents format table ∙ ap (λ (n : ℕ). header_len format + 2 * n) counted in
    let last : length digest ≡ 32 = length-sha256 contents in
    let all : length bytes ≡ length contents + length digest = ap length file.same ∙ length-append contents digest in
    let counts = counts_file format bytes table file is in (
      (((counts, omega (arith, all, body, last)), omega (arith, all, body, last)), refl),
      ap (drop (contents_len format table.family)) file.same
          ∙ drop_at contents digest (contents_len format table.family) body
          ∙ ap sha256 (sym (ap (take (contents_len format table.family)) file.same ∙ take_at contents digest (contents_len format table.family) body)),
    )

pub passes_all : (bytes : List ℕ) (table : ClassTable) → IsFile bytes table → IsTable table.family table.values → PassesAll (whole bytes)
passes_all bytes table file is =
    let found = format_of bytes table file in (found.0, table.family, file_passes found.0 bytes table found.1 is)

-- tables of one family with the same files in one format are the same
same_values : (format : Format) (family : Family) (xs ys : List Value) → IsTable family xs → IsTable family ys
    → bytes_in format (class_table family xs) ≡ bytes_in format (class_table family ys) → class_table family xs ≡ class_table family ys
same_values format family xs ys is_xs is_ys same =
    let a : ClassTable = class_table family xs in
    let b : ClassTable = class_table family ys in
    let len : ℕ = contents_len format family in
    let len_a : length (contents_in format a) ≡ len = length-contents format a ∙ ap (λ (n : ℕ). header_len format + 2 * n) (table_classes a is_xs) in
    let len_b : length (contents_in format b) ≡ len = length-contents format b ∙ ap (λ (n : ℕ). header_len format + 2 * n) (table_classes b is_ys) in
    let body : contents_in format a ≡ contents_in format b =
    sym (take_at (contents_in format a) (sha256 (contents_in format a)) len len_a)
    ∙ ap (take len) same
    ∙ take_at (contents_in format b) (sha256 (contents_in format b)) len len_b in
    let found : records xs ≡ records ys = sym (contents-rest format a) ∙ ap (drop (header_len format)) body ∙ contents-rest format b in
    ap (class_table family) (same_records xs ys is_xs.entries is_ys.entries found)

-- tables with the same files are the same, where those name one family in one format
same_tables : (f g : Format) (p q : Family) (xs ys : List Value) → f ≡ g → p ≡ q → IsTable p xs → IsTable q ys
    → bytes_in f (class_table p xs) ≡ bytes_in g (class_table q ys) → class_table p xs ≡ class_table q ys
same_tables f g p q xs ys one_format one is_xs is_ys same =
    rw (← one) (same_values f p xs ys is_xs (rw (← one) at is_ys) (rw (← one, ← one_format) at same))

-- no two tables have one file
pub same_files : (bytes : List ℕ) (a b : ClassTable) → IsTable a.family a.values → IsTable b.family b.values → IsFile bytes a → IsFile bytes b → a ≡ b
same_files bytes a b is_a is_b file_a file_b =
    let at_a = format_of bytes a file_a in
    let at_b = format_of bytes b file_b in
    let counts_a = counts_file at_a.0 bytes a at_a.1 is_a in
    let counts_b = counts_file at_b.0 bytes b at_b.1 is_b in
    let one = same_head at_a.0 at_b.0 a.family b.family bytes counts_a.0 counts_b.0 in
    same_tables at_a.0 at_b.0 a.family b.family a.values b.values one.0 one.1 is_a is_b (sym at_a.1.same ∙ at_b.1.same)

-- what reading a file of a table gives
pub read_back : (table : ClassTable) (bytes : List ℕ) (result : Result ClassTable Fault) → IsTable table.family table.values → IsFile bytes table
    → IfOk result (λ found. (false ≡ false) × IsFile bytes found × PassesAll (whole bytes))
    → IfOk result (λ found. IsTable found.family found.values)
    → IfErr result (λ given. (given ≡ fault.Memory) ⊎ HasReadFault (whole bytes) given)
    → MatchResult result (λ found. found ≡ table) (λ given. given ≡ fault.Memory)
read_back table bytes (Ok found) is file right good wrong = same_files bytes found table good is right.1 file
read_back table bytes (Err given) is file right good (inl none) = none
read_back table bytes (Err given) is file right good (inr at_given) = absurd (no_fault (whole bytes) given (passes_all bytes table file is) at_given)
