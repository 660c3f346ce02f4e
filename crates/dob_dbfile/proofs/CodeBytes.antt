-- Records as the bytes of codes and of values, whole and in pieces.
use Rattle.dob_dbfile.proofs.Common.{◌%◌, ◌*◌, ◌++◌, ◌+◌, ◌/◌, ◌<◌, ◌∙◌, ◌∷◌, ◌≡◌, ◌≤◌, List, [], add-one, ap, append-nil, append_assoc, arith, drop}
use Rattle.dob_dbfile.proofs.Common.{length, length-drop, length-take-le, refl, slice_index, sym, take, take-add, ℕ, take-append-drop}
use Rattle.dob_dbfile.proofs.Common.{flat_map-append, All-tail, All, little_bytes, little_number, code_of_value, value_of_code}
use Rattle.dob_dbfile.proofs.Common.{values_of_codes, IsEntry, Value, code_bytes, records}
use Rattle.std.proofs.lemmas.List.{get_or-drop}
use Rattle.dob_distance.specs.declared.value.Value.TheVariants.{Win, Loss, Draw}

-- ---- records and the codes that they are

-- a value has its code
pub code_of_code : (code : ℕ) → code_of_value (value_of_code code) ≡ code
code_of_code code = grind arith

-- records of values that stand for codes are those of the codes
pub records-codes : (codes : List ℕ) → records (values_of_codes codes) ≡ code_bytes codes
records-codes [] = refl
records-codes (code ∷ codes) = rw (code_of_code code, records-codes codes) refl

-- two bytes are those of their number
pub pair_back : (xs : List ℕ) → 2 ≤ length xs → ((i : ℕ) → slice_index xs i < 256) → little_bytes 2 (little_number 2 xs) ≡ take 2 xs
pair_back [] two bytes = absurd (omega arith)
pair_back (a ∷ []) two bytes = absurd (omega arith)
pair_back (a ∷ b ∷ xs) two bytes =
    let low : a < 256 = bytes 0 in
    let high : b < 256 = bytes 1 in
    let first : (a + 256 * (b + 256 * 0)) % 256 ≡ a = omega arith in
    let second : (a + 256 * (b + 256 * 0)) / 256 % 256 ≡ b = omega arith in
    ap (λ (x : ℕ). x ∷ (a + 256 * (b + 256 * 0)) / 256 % 256 ∷ []) first ∙ ap (λ (y : ℕ). a ∷ y ∷ []) second

-- one record more
pub code_more : (bytes more : List ℕ) (index code : ℕ) → ((i : ℕ) → slice_index bytes i < 256) → 2 * index + 2 ≤ length bytes
    → code_bytes more ≡ take (2 * index) bytes → code ≡ little_number 2 (drop (2 * index) bytes)
    → code_bytes (more ++ code ∷ []) ≡ take (2 * (index + 1)) bytes
code_more bytes more index code fits there same is =
    let place : 2 * (index + 1) ≡ 2 * index + 2 = omega arith in
    let two : 2 ≤ length (drop (2 * index) bytes) = omega (arith, length-drop (2 * index) bytes) in
    let small : (i : ℕ) → slice_index (drop (2 * index) bytes) i < 256 = λ i. rw (get_or-drop (2 * index) bytes i 0) (fits (2 * index + i)) in
    flat_map-append (λ (c : ℕ). little_bytes 2 c) more (code ∷ [])
    ∙ ap (λ (last : List ℕ). code_bytes more ++ last) (append-nil (little_bytes 2 code))
    ∙ ap (λ (front : List ℕ). front ++ little_bytes 2 code) same
    ∙ ap (λ (c : ℕ). take (2 * index) bytes ++ little_bytes 2 c) is
    ∙ ap (λ (last : List ℕ). take (2 * index) bytes ++ last) (pair_back (drop (2 * index) bytes) two small)
    ∙ sym (take-add (2 * index) 2 bytes)
    ∙ ap (λ (n : ℕ). take n bytes) (sym place)

-- ---- the values that records are

-- an entry's code fits two bytes
code_fits : (value : Value) → IsEntry value → code_of_value value < 65536
code_fits (Win plies) entry = omega (arith, entry.1)
code_fits (Loss plies) entry = omega (arith, entry.1)
code_fits Draw entry = omega arith

-- and stands for it
code_back : (value : Value) → IsEntry value → value_of_code (code_of_value value) ≡ value
code_back (Win plies) entry = ap value_of_code (add-one plies) ∙ rw entry.0 refl
code_back (Loss plies) entry = ap value_of_code (add-one plies) ∙ rw entry.0 refl
code_back Draw entry = refl

-- the values of records
abbrev decoded : List ℕ → List Value
decoded [] = []
decoded (low ∷ []) = []
decoded (low ∷ high ∷ rest) = value_of_code (low + 256 * high) ∷ decoded rest

-- the records of entries are decoded to them
decoded-records : (values : List Value) → All IsEntry values → decoded (records values) ≡ values
decoded-records [] entries = refl
decoded-records (value ∷ values) entries =
    let entry : IsEntry value = entries 0 value (omega arith) in
    let code : ℕ = code_of_value value in
    let fits : code < 65536 = code_fits value entry in
    let number : code % 256 + 256 * (code / 256 % 256) ≡ code = omega arith in
    ap (λ (n : ℕ). value_of_code n ∷ decoded (records values)) number
    ∙ ap (λ (v : Value). v ∷ decoded (records values)) (code_back value entry)
    ∙ ap (λ (vs : List Value). value ∷ vs) (decoded-records values (All-tail IsEntry value values entries))

-- so entries with the same records are the same
pub same_records : (xs ys : List Value) → All IsEntry xs → All IsEntry ys → records xs ≡ records ys → xs ≡ ys
same_records xs ys in_xs in_ys same = sym (decoded-records xs in_xs) ∙ ap decoded same ∙ decoded-records ys in_ys

-- two bytes for each value
pub length-records : (values : List Value) → length (records values) ≡ 2 * length values
length-records [] = refl
length-records (value ∷ values) = let rest = length-records values in omega (arith, rest)

-- ---- the records in pieces
pub length-code_bytes : (codes : List ℕ) → length (code_bytes codes) ≡ 2 * length codes
length-code_bytes [] = refl
length-code_bytes (code ∷ codes) = let rest = length-code_bytes codes in omega (arith, rest)

-- where a piece goes on from the first codes up to others
pub codes_part : (codes : List ℕ) (first end : ℕ) (piece : List ℕ) → code_bytes (take first codes) ++ piece ≡ code_bytes (take end codes)
    → code_bytes codes ≡ code_bytes (take first codes) ++ (piece ++ code_bytes (drop end codes))
codes_part codes first end piece joined =
    ap code_bytes (sym (take-append-drop end codes))
    ∙ flat_map-append (λ (code : ℕ). little_bytes 2 code) (take end codes) (drop end codes)
    ∙ ap (λ (front : List ℕ). front ++ code_bytes (drop end codes)) (sym joined)
    ∙ append_assoc (code_bytes (take first codes)) piece (code_bytes (drop end codes))

pub codes_len : (codes : List ℕ) (count : ℕ) → count ≤ length codes → length (code_bytes (take count codes)) ≡ 2 * count
codes_len codes count within = length-code_bytes (take count codes) ∙ ap (λ (n : ℕ). 2 * n) (length-take-le count codes within)
