-- Which entries a list of either kind supports.
use Rattle.std.specs.Prelude.{◌<◌, List, Option, Some, None, Contains, length, ℕ}
use Rattle.dob_pieces.specs.declared.profile.Family.{Family}
use Rattle.dob_pieces.specs.declared.setup.Setup.{Setup}
use Rattle.dob_certificate.specs.Ascending.{listed_entry}
use Rattle.dob_certificate.specs.declared.entry.Entry.{Entry}
use Rattle.dob_certificate.specs.declared.list_kind.ListKind.{ListKind}
use Rattle.dob_certificate.specs.declared.list_kind.ListKind.TheVariants.{Lost, Held}
use Rattle.dob_certificate.specs.Lost.{IsLossSupported, SupportsLost}
use Rattle.dob_certificate.specs.Held.{IsHoldSupported, SupportsHeld}

-- a list of that kind supports the entry
abbrev pub Supports : ListKind → Family → List Entry → Entry → Type 0
Supports Lost = SupportsLost
Supports Held = SupportsHeld

-- what an entry with n plies has to show of its position
abbrev pub IsSupported : ListKind → Family → List Entry → ℕ → Setup → Type 0
IsSupported Lost = IsLossSupported
IsSupported Held = IsHoldSupported

-- it supports each of its entries
abbrev pub SupportsAll : ListKind → Family → List Entry → Type 0
SupportsAll kind family entries = (entry : Entry) → Contains entries entry → Supports kind family entries entry

-- the entry at that place is the first that isn't supported
pub record IsFirstAt (Supported : Entry → Type 0) (entries : List Entry) (place : ℕ) : Type 0 where
  pub within : place < length entries
  pub unsupported : ¬ Supported (listed_entry entries place)
  pub before : (earlier : ℕ) → earlier < place → Supported (listed_entry entries earlier)

-- the place of the first entry that a list of that kind doesn't support, or nothing where it supports all
abbrev pub IsFirstBroken : ListKind → Family → List Entry → Option ℕ → Type 0
IsFirstBroken kind family entries None = SupportsAll kind family entries
IsFirstBroken kind family entries (Some place) = IsFirstAt (Supports kind family entries) entries place
