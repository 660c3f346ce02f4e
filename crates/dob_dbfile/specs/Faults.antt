-- What is tested of a file that is read, in this order, and which fault it is where one of the tests is the first to fail.
use Rattle.std.specs.Prelude.{◌≡◌, ℕ, ◌+◌, ◌*◌, ◌≤◌, ◌⊎◌, Bool, true, false, List, [], ◌∷◌, length, take, drop, Result, Ok, Err}
use Rattle.sha2.specs.Sha256.{sha256}
use Rattle.dob_pieces.specs.declared.piece_set.PieceSet.{PieceSet}
use Rattle.dob_pieces.specs.declared.profile.Family.{Family}
use Rattle.dob_pieces.specs.declared.profile.Profile.{Profile}
use Rattle.dob_pieces.specs.declared.profile.Profile.TheVariants.{A}
use Rattle.dob_rank.specs.Families.{family_of, classes_of}
use Rattle.dob_dbfile.specs.declared.fault.Fault.{Fault}
use Rattle.dob_dbfile.specs.declared.fault.Fault.TheVariants.{Truncated, Magic, SetByte, ClassCount, Trailing, Digest, Io, ProfileByte}
use Rattle.dob_dbfile.specs.declared.header.Format.{Format}
use Rattle.dob_dbfile.specs.declared.header.Format.TheVariants.{First, Second}
use Rattle.dob_device.specs.Devices.{Stream}
use Rattle.dob_dbfile.specs.Format.{title, set_bytes, profile_number, count_bytes}

-- whether it is the fault of a device that failed
abbrev pub is_io : Fault → Bool
is_io (Io bytes) = true
is_io _ = false

-- whether a call gave a fault of which the test says so
abbrev pub fails : {X F : Type 0} → (F → Bool) → Result X F → Bool
fails test (Ok x) = false
fails test (Err fault) = test fault

-- ---- the header, each test with those before it

-- how many bytes stand before the number of classes, and before the records
abbrev pub count_place : Format → ℕ
count_place First = 12
count_place Second = 13

abbrev pub header_len : Format → ℕ
header_len First = 20
header_len Second = 21

-- as many bytes as the shortest header has
abbrev pub HasFront : List ℕ → Type 0
HasFront bytes = 20 ≤ length bytes

abbrev pub HasTitle : Format → List ℕ → Type 0
HasTitle format bytes = HasFront bytes × (take 8 bytes ≡ title format)

abbrev pub NamesSet : Format → PieceSet → List ℕ → Type 0
NamesSet format set bytes = HasTitle format bytes × (take 4 (drop 8 bytes) ≡ set_bytes set)

abbrev pub HasHeader : Format → PieceSet → List ℕ → Type 0
HasHeader format set bytes = NamesSet format set bytes × (header_len format ≤ length bytes)

-- byte 12 is the profile's; in the first format it isn't asked, and the profile is A
abbrev pub SaysProfile : Format → Profile → List ℕ → Type 0
SaysProfile First profile bytes = profile ≡ A
SaysProfile Second profile bytes = take 1 (drop 12 bytes) ≡ profile_number profile ∷ []

abbrev pub NamesFamily : Format → Family → List ℕ → Type 0
NamesFamily format family bytes = HasHeader format family.set bytes × SaysProfile format family.profile bytes

abbrev pub CountsClasses : Format → Family → List ℕ → Type 0
CountsClasses format family bytes = NamesFamily format family bytes × (take 8 (drop (count_place format) bytes) ≡ count_bytes (classes_of family))

-- the header names a family with its number of classes
abbrev pub NamesClasses : List ℕ → Type 0
NamesClasses bytes = (format : Format) × (family : Family) × CountsClasses format family bytes

-- the bytes that come are too few for a header
abbrev pub IsHeaderShort : List ℕ → Type 0
IsHeaderShort bytes = (¬ HasFront bytes) ⊎ ((format : Format) × (set : PieceSet) × NamesSet format set bytes × ¬ HasHeader format set bytes)

-- the first test that a header fails that isn't too short
abbrev pub HasHeaderFault : List ℕ → Fault → Type 0
HasHeaderFault bytes Magic = HasFront bytes × ((format : Format) → ¬ HasTitle format bytes)
HasHeaderFault bytes SetByte = (format : Format) × HasTitle format bytes × ((set : PieceSet) → ¬ NamesSet format set bytes)
HasHeaderFault bytes ProfileByte =
    (format : Format) × (set : PieceSet) × HasHeader format set bytes × ((profile : Profile) → ¬ NamesFamily format (family_of set profile) bytes)
HasHeaderFault bytes ClassCount =
    (format : Format) × (family : Family) × NamesFamily format family bytes × ¬ CountsClasses format family bytes
HasHeaderFault bytes _ = ⊥

-- ---- the whole file

-- how many bytes stand before the digest of a family's file, and how many there are with it
abbrev pub contents_len : Format → Family → ℕ
contents_len format family = header_len format + 2 * classes_of family

abbrev pub file_len : Format → Family → ℕ
file_len format family = contents_len format family + 32

abbrev pub IsWhole : Format → Family → Stream → Type 0
IsWhole format family stream = CountsClasses format family stream.bytes × (file_len format family ≤ length stream.bytes)

abbrev pub IsNoLonger : Format → Family → Stream → Type 0
IsNoLonger format family stream = IsWhole format family stream × (length stream.bytes ≤ file_len format family)

abbrev pub Ends : Format → Family → Stream → Type 0
Ends format family stream = IsNoLonger format family stream × (stream.fails ≡ false)

abbrev pub HasDigest : Format → Family → Stream → Type 0
HasDigest format family stream =
    Ends format family stream × (drop (contents_len format family) stream.bytes ≡ sha256 (take (contents_len format family) stream.bytes))

-- it is a file with its digest
abbrev pub PassesAll : Stream → Type 0
PassesAll stream = (format : Format) × (family : Family) × HasDigest format family stream

-- the bytes that come are too few for a header, or for the records and the digest of the family that it names
abbrev pub IsCutShort : Stream → Type 0
IsCutShort stream = IsHeaderShort stream.bytes
    ⊎ ((format : Format) × (family : Family) × CountsClasses format family stream.bytes × ¬ IsWhole format family stream)

-- The fault of what a source gives: the first test that fails, or the place where the source fails before that.
abbrev pub HasReadFault : Stream → Fault → Type 0
HasReadFault stream Truncated = IsCutShort stream × (stream.fails ≡ false)
HasReadFault stream Trailing = (format : Format) × (family : Family) × IsWhole format family stream × ¬ IsNoLonger format family stream
HasReadFault stream Digest = (format : Format) × (family : Family) × Ends format family stream × ¬ HasDigest format family stream
HasReadFault stream (Io bytes) = (bytes ≡ length stream.bytes) × (stream.fails ≡ true)
    × (IsCutShort stream ⊎ ((format : Format) × (family : Family) × IsNoLonger format family stream))
HasReadFault stream fault = HasHeaderFault stream.bytes fault
