-- What a certificate's file says, and its bytes.
use Rattle.std.specs.Prelude.{◌≡◌, All, ℕ, ◌+◌, ◌-◌, ◌<◌, ◌⊎◌, List, [], ◌∷◌, ◌++◌, length, codes, nat_lt, if◌then◌else◌}
use Rattle.byteorder.specs.Endian.{little_bytes}
use Rattle.sha2.specs.Sha256.{sha256}
use Rattle.dob_pieces.specs.declared.profile.Family.{Family}
use Rattle.dob_rank.specs.Families.{classes_of}
use Rattle.dob_distance.specs.declared.value.Value.TheVariants.{Win, Loss, Draw}
use Rattle.dob_dbfile.specs.Format.{set_bytes, profile_number}
use Rattle.dob_certificate.specs.Ascending.{AreAscending}
use Rattle.dob_certificate.specs.declared.claim.Claim.{Claim}
use Rattle.dob_certificate.specs.declared.claim.Claim.TheVariants.{Exactly, LostWithin, WonWithin}
use Rattle.dob_certificate.specs.declared.entry.Entry.{Entry}
use Rattle.dob_certificate.specs.declared.entry.TheConstants.{EVER}
use Rattle.dob_certificate.specs.declared.list_kind.ListKind.{ListKind}
use Rattle.dob_certificate.specs.declared.list_kind.ListKind.TheVariants.{Lost, Held}
use Rattle.dob_certfile.specs.declared.file.CertificateFile.{CertificateFile}
use Rattle.dob_certfile.specs.Numbers.{number_bytes}

-- what a file says, apart from where it lies in memory
pub record Content : Type 0 where
  pub family : Family
  pub root : ℕ
  pub claim : Claim
  pub lost : List Entry
  pub held : List Entry

abbrev pub content : CertificateFile → Content
content file = record { family = file.family; root = file.root; claim = file.claim; lost = file.certificate.lost; held = file.certificate.held }

-- ---- the bytes

-- what a certificate's file begins with
abbrev pub certificate_title : List ℕ
certificate_title = codes "DOBUCERT"

-- the kind of the claim, and its plies
abbrev pub claim_bytes : Claim → List ℕ
claim_bytes (Exactly Draw) = 0 ∷ 0 ∷ []
claim_bytes (Exactly (Win plies)) = 1 ∷ plies ∷ []
claim_bytes (Exactly (Loss plies)) = 2 ∷ plies ∷ []
claim_bytes (WonWithin plies) = 3 ∷ plies ∷ []
claim_bytes (LostWithin plies) = 4 ∷ plies ∷ []

-- an entry's plies, 255 for ever
abbrev pub plies_byte : ℕ → ℕ
plies_byte plies = if nat_lt plies 255 then plies else 255

-- an entry whose class is the least or above: how far it is from the class below the least, and its plies
abbrev pub entry_bytes : ℕ → Entry → List ℕ
entry_bytes least entry = number_bytes (entry.class + 1 - least) ++ plies_byte entry.plies ∷ []

-- entries by their classes, each of which is above the one before
unfoldable pub entries_bytes : ℕ → List Entry → List ℕ
entries_bytes least [] = []
entries_bytes least (entry ∷ entries) = entry_bytes least entry ++ entries_bytes (entry.class + 1) entries

-- what stands before the counts of entries
abbrev pub head_bytes : Content → List ℕ
head_bytes c = certificate_title ++ (1 ∷ (set_bytes c.family.set ++ (profile_number c.family.profile ∷ (little_bytes 4 c.root ++ claim_bytes c.claim))))

-- all that stands before the digest
unfoldable pub contents_of : Content → List ℕ
contents_of c = head_bytes c ++ (little_bytes 4 (length c.lost) ++ (little_bytes 4 (length c.held) ++ (entries_bytes 0 c.lost ++ entries_bytes 0 c.held)))

-- the contents and their digest
abbrev pub bytes_of : Content → List ℕ
bytes_of c = contents_of c ++ sha256 (contents_of c)

-- ---- what has a file

-- only what isn't lost may be so for ever
abbrev pub FitsPlies : ListKind → ℕ → Type 0
FitsPlies Lost plies = plies < 255
FitsPlies Held plies = (plies < 255) ⊎ (plies ≡ EVER)

abbrev pub FitsClaim : Claim → Type 0
FitsClaim (Exactly Draw) = Unit {0}
FitsClaim (Exactly (Win plies)) = plies < 255
FitsClaim (Exactly (Loss plies)) = plies < 255
FitsClaim (WonWithin plies) = plies < 255
FitsClaim (LostWithin plies) = plies < 255

-- an entry of such a list, of a class among so many
pub record FitEntry (kind : ListKind) (classes : ℕ) (entry : Entry) : Type 0 where
  pub class : entry.class < classes
  pub plies : FitsPlies kind entry.plies

abbrev pub FitEntries : ListKind → ℕ → List Entry → Type 0
FitEntries kind classes entries = AreAscending entries × All (FitEntry kind classes) entries

pub record Fits (c : Content) : Type 0 where
  pub root : c.root < classes_of c.family
  pub claim : FitsClaim c.claim
  pub lost : FitEntries Lost (classes_of c.family) c.lost
  pub held : FitEntries Held (classes_of c.family) c.held
