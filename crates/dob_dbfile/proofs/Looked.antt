-- What was read by place, and the record of a class in the file of a table.
use Rattle.dob_dbfile.proofs.Common.{◌*◌, ◌++◌, ◌<◌, ◌∙◌, ◌∷◌, ◌≡◌, List, Some, [], ap, arith, drop, length, slice_get, subst, suc, sym, take, zero, ℕ}
use Rattle.dob_dbfile.proofs.Common.{drop-drop, All-tail, All, unwrap_or, little_bytes, sha256, Family, classes_of, code_of_value, ClassTable, IsEntry, IsTable}
use Rattle.dob_dbfile.proofs.Common.{Value, Stream, after, whole, CountsClasses, header_len, IsFile, records, contents_in, HasRecord, RecordsAreEntries}
use Rattle.dob_dbfile.proofs.Common.{place_of, GivesFewer, TakesBytes, Fault, Format, length-drop, refl}
use Rattle.dob_dbfile.specs.Looking.{HasRecordFault}
use Rattle.dob_dbfile.specs.declared.fault.Fault.TheVariants.{Truncated, Memory, Io}
use Rattle.std.proofs.lemmas.Option.{get_or_from_slice_get, same_Some, slice_get_within}
use Rattle.dob_dbfile.proofs.CodeBytes.{same_records}
use Rattle.dob_dbfile.proofs.FileBytes.{after_header, format_of}
use Rattle.dob_dbfile.proofs.Places.{same_head}
use Rattle.dob_dbfile.proofs.Written.{counts_file, table_classes}

-- the two bytes that were read are the class's
pub record_is : (stream : Stream) (format : Format) (class : ℕ) (room : List ℕ) (value : Value) → length room ≡ 2
    → TakesBytes (after (place_of format class) stream) room → little_bytes 2 (code_of_value value) ≡ room → IsEntry value → HasRecord stream format class value
record_is stream format class room value two taken back entry = grind arith

-- what is cut short at the class's place is cut short before the record's end
pub record_cut : (stream : Stream) (format : Format) (class : ℕ) (given : Fault) → GivesFewer 2 (place_of format class) (after (place_of format class) stream) given
    → (given ≡ Memory → ⊥) → HasRecordFault stream format class given
record_cut stream format class Truncated cut known = (omega (arith, cut.0, length-drop (place_of format class) stream.bytes), cut.1)
record_cut stream format class (Io bytes) cut known = (omega (arith, cut.0, length-drop (place_of format class) stream.bytes), cut.1, cut.2)
record_cut stream format class Memory cut known = absurd (known refl)
record_cut stream format class _ cut known = absurd cut

-- ---- the record of a class in the file of a table
one_entry : (value : Value) → IsEntry value → All IsEntry (value ∷ [])
one_entry value entry zero default below = entry
one_entry value entry (suc i) default below = absurd (omega (arith, below))

one_value : (a b : Value) → a ∷ [] ≡ b ∷ [] → a ≡ b
one_value a b e = ap (λ (vs : List Value). unwrap_or (slice_get vs 0) a) e

-- a class has one record
pub one_record : (stream : Stream) (format : Format) (class : ℕ) (v w : Value) → HasRecord stream format class v → HasRecord stream format class w → v ≡ w
one_record stream format class v w at_v at_w = grind (arith, same_records, one_entry)

-- the two bytes of a class are the record of its value
entry_at : (values : List Value) (class : ℕ) (value : Value) (behind : List ℕ) → All IsEntry values → class < length values → IsEntry value
    → take 2 (drop (2 * class) (records values ++ behind)) ≡ little_bytes 2 (code_of_value value) → slice_get values class ≡ Some value
entry_at [] class value behind entries below entry same = absurd (omega (arith, below))
entry_at (v ∷ values) zero value behind entries below entry same =
    let own : IsEntry v = entries 0 v (omega arith) in
    ap (λ (x : Value). Some x)
    (one_value v value (same_records (v ∷ []) (value ∷ []) (one_entry v own) (one_entry value entry) (ap (λ (bytes : List ℕ). bytes ++ []) same)))
entry_at (v ∷ values) (suc class) value behind entries below entry same =
    let place : 2 * suc class ≡ suc (suc (2 * class)) = omega arith in
    entry_at values class value behind (All-tail IsEntry v values entries) (omega (arith, below)) entry (rw place at same)

-- the record of a class is that of its value
record_at : (values : List Value) (class : ℕ) (value : Value) (behind : List ℕ) → slice_get values class ≡ Some value
    → take 2 (drop (2 * class) (records values ++ behind)) ≡ little_bytes 2 (code_of_value value)
record_at [] class value behind stands = absurd (let below : class < 0 = slice_get_within {A = Value} [] class value stands in omega (arith, below))
record_at (v ∷ values) zero value behind stands = ap (λ (x : Value). little_bytes 2 (code_of_value x)) (same_Some v value stands)
record_at (v ∷ values) (suc class) value behind stands =
    let place : 2 * suc class ≡ suc (suc (2 * class)) = omega arith in rw place (record_at values class value behind stands)

-- the header of a table's file names its family alone
pub table_family : (table : ClassTable) (bytes : List ℕ) (format : Format) (family : Family) → IsTable table.family table.values → IsFile bytes table
    → CountsClasses format family bytes → family ≡ table.family
table_family table bytes format family is file counts =
    let found = format_of bytes table file in
    (same_head format found.0 family table.family bytes counts.0 (counts_file found.0 bytes table found.1 is).0).1

-- behind the header, whatever format it names, stand the records and then the digest
records_after : (table : ClassTable) (bytes : List ℕ) (format : Format) (family : Family) (class : ℕ) → IsTable table.family table.values
    → IsFile bytes table → CountsClasses format family bytes
    → (digest : List ℕ) × (drop (2 * class) (records table.values ++ digest) ≡ drop (place_of format class) bytes)
records_after table bytes format family class is file counts =
    let found = format_of bytes table file in
    let one = same_head format found.0 family table.family bytes counts.0 (counts_file found.0 bytes table found.1 is).0 in
    let digest : List ℕ = sha256 (contents_in found.0 table) in
    let behind : drop (header_len found.0) bytes ≡ records table.values ++ digest =
    ap (drop (header_len found.0)) found.1.same ∙ after_header found.0 table in (
      digest,
      ap (drop (2 * class)) (sym behind)
          ∙ drop-drop (2 * class) (header_len found.0) bytes
          ∙ ap (λ (f : Format). drop (place_of f class) bytes) (sym one.0),
    )

pub records_are_entries : RecordsAreEntries
records_are_entries table bytes format family class value is file counts below has =
    let behind = records_after table bytes format family class is file counts in
    entry_at table.values class value behind.0 is.entries below has.entry (ap (take 2) behind.1 ∙ has.same)

-- the record of one of the family's classes
pub table_record : (table : ClassTable) (bytes : List ℕ) (format : Format) (family : Family) (class : ℕ) (value : Value) → IsTable table.family table.values
    → IsFile bytes table → CountsClasses format family bytes → class < classes_of table.family → HasRecord (whole bytes) format class value
    → slice_get table.values class ≡ Some value
table_record table bytes format family class value is file counts below has =
    records_are_entries table bytes format family class value is file counts
    (let counted : length table.values ≡ classes_of table.family = table_classes table is in omega (arith, counted, below)) has

-- in the file of a table each class has its value's record
pub table_has_record : (table : ClassTable) (bytes : List ℕ) (format : Format) (family : Family) (class : ℕ) (value : Value) → IsTable table.family table.values
    → IsFile bytes table → CountsClasses format family bytes → slice_get table.values class ≡ Some value → HasRecord (whole bytes) format class value
table_has_record table bytes format family class value is file counts stands =
    let behind = records_after table bytes format family class is file counts in
    record {
      entry = subst IsEntry (get_or_from_slice_get table.values class value value stands)
          (is.entries class value (slice_get_within table.values class value stands));
      same = ap (take 2) (sym behind.1) ∙ record_at table.values class value behind.0 stands;
    }
