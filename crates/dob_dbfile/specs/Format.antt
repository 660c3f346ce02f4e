-- The bytes of a table's file, in its two formats.
use Rattle.std.specs.Prelude.{◌≡◌, ◌⊎◌, ℕ, List, [], ◌∷◌, ◌++◌, length, codes}
use Rattle.std.specs.List.{flat_map}
use Rattle.byteorder.specs.Endian.{little_bytes}
use Rattle.sha2.specs.Sha256.{sha256}
use Rattle.dob_pieces.specs.declared.piece_set.PieceSet.{PieceSet}
use Rattle.dob_pieces.specs.declared.profile.Family.{Family}
use Rattle.dob_pieces.specs.declared.profile.Profile.{Profile}
use Rattle.dob_pieces.specs.declared.profile.Profile.TheVariants.{A}
pub use Rattle.dob_pieces.specs.Profiles.{profile_number}
use Rattle.dob_distance.specs.declared.value.Value.{Value}
use Rattle.dob_distance.specs.Codes.{code_of_value}
use Rattle.dob_value.specs.Follows.{ClassTable}
use Rattle.dob_dbfile.specs.declared.header.Format.{Format}
use Rattle.dob_dbfile.specs.declared.header.Format.TheVariants.{First, Second}

-- what a file of each format begins with
abbrev pub title : Format → List ℕ
title First = codes "DOBUTSU1"
title Second = codes "DOBUTSU2"

-- the numbers of chicks, elephants and giraffes, and a 2
abbrev pub set_bytes : PieceSet → List ℕ
set_bytes set = set.chicks ∷ set.elephants ∷ set.giraffes ∷ 2 ∷ []

-- the profile, of which the first format says nothing
abbrev pub profile_bytes : Format → Profile → List ℕ
profile_bytes First profile = []
profile_bytes Second profile = profile_number profile ∷ []

-- the number of classes in eight bytes, the lowest first
abbrev pub count_bytes : ℕ → List ℕ
count_bytes count = little_bytes 8 count

-- a record for each code: its two bytes, the lower first
abbrev pub code_bytes : List ℕ → List ℕ
code_bytes codes = flat_map (λ code. little_bytes 2 code) codes

-- a record for each value: 0 for a draw, and else the distance plus one
abbrev pub records : List Value → List ℕ
records values = flat_map (λ value. little_bytes 2 (code_of_value value)) values

-- what stands before the records of a file in the second format, of so many classes of the family
abbrev pub front_of : Family → ℕ → List ℕ
front_of family count = title Second ++ set_bytes family.set ++ profile_bytes Second family.profile ++ count_bytes count

-- what stands before the records
abbrev pub header_in : Format → ClassTable → List ℕ
header_in format table =
    title format ++ set_bytes table.family.set ++ profile_bytes format table.family.profile ++ count_bytes (length table.values)

-- all that stands before the digest
unfoldable pub contents_in : Format → ClassTable → List ℕ
contents_in format table = header_in format table ++ records table.values

-- the contents and their digest
abbrev pub bytes_in : Format → ClassTable → List ℕ
bytes_in format table = contents_in format table ++ sha256 (contents_in format table)

-- the digest that ends the file of a table in the second format
unfoldable pub digest_of : ClassTable → List ℕ
digest_of table = sha256 (contents_in Second table)

-- the file of a table, in the second format: the one that is written
abbrev pub bytes_of : ClassTable → List ℕ
bytes_of table = bytes_in Second table

-- and in the first, for tables of profile A
abbrev pub bytes1 : ClassTable → List ℕ
bytes1 table = bytes_in First table

-- the bytes are a file of the table, in one of the two
abbrev pub IsFile : List ℕ → ClassTable → Type 0
IsFile bytes table = (bytes ≡ bytes_of table) ⊎ ((table.family.profile ≡ A) × (bytes ≡ bytes1 table))
