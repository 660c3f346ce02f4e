-- Why a certificate is refused.
use Rattle.std.specs.Prelude.{◌≡◌, ◌⊎◌, ℕ, List, ◌++◌, codes, Contains}
use Rattle.std.specs.Fmt.{decimal}
use Rattle.std.specs.declared.result.Result.{Result}
use Rattle.std.specs.declared.result.Result.TheVariants.{Ok, Err}
use Rattle.dob_pieces.specs.declared.profile.Family.{Family}
use Rattle.dob_pieces.specs.declared.setup.Setup.{Setup}
use Rattle.dob_certificate.specs.Ascending.{class_at}
use Rattle.dob_certificate.specs.declared.claim.Claim.{Claim as Claimed}
use Rattle.dob_certificate.specs.declared.entry.Entry.{Entry}
use Rattle.dob_certificate.specs.declared.refusal.Refusal.{Refusal}
use Rattle.dob_certificate.specs.declared.refusal.Refusal.TheVariants.{Unsupported, Claim}
use Rattle.dob_certificate.specs.Lists.{IsFirstAt}
use Rattle.dob_certificate.specs.Lost.{SupportsLost, SupportsAllLost}
use Rattle.dob_certificate.specs.Held.{SupportsHeld, SupportsAllHeld}
use Rattle.dob_certificate.specs.Claims.{Show}

-- the refusal's number and name
abbrev pub fault_text : Refusal → List ℕ
fault_text (Unsupported class) = codes "E30 Unsupported class " ++ decimal class
fault_text Claim = codes "E31 Claim"

-- that a certificate would have more than so many entries
abbrev pub too_many_text : ℕ → List ℕ
too_many_text most = codes "E39 TooMany more than " ++ decimal most ++ codes " entries"

-- the first of the entries that isn't supported is of that class
pub record IsFirstUnsupported (Supported : Entry → Type 0) (entries : List Entry) (class : ℕ) : Type 0 where
  pub place : ℕ
  pub first : IsFirstAt Supported entries place
  pub class_is : class_at entries place ≡ class

-- in the order of the entries, those of the lost list first
abbrev pub IsUnsupported : Family → List Entry → List Entry → ℕ → Type 0
IsUnsupported family lost held class = IsFirstUnsupported (SupportsLost family lost) lost class
    ⊎ (SupportsAllLost family lost × IsFirstUnsupported (SupportsHeld family held) held class)

-- Why the lists don't prove the claim: an entry isn't supported; or all are, and the lists don't show the claim.
abbrev pub IsRefusal : Family → List Entry → List Entry → Setup → Claimed → Refusal → Type 0
IsRefusal family lost held p claim (Unsupported class) = IsUnsupported family lost held class
IsRefusal family lost held p claim Claim = SupportsAllLost family lost × SupportsAllHeld family held × ¬ Show family lost held p claim

-- what is found of the entry at a place of a list alone
abbrev pub IsEntryVerdict : (Entry → Type 0) → Entry → Result Unit Refusal → Type 0
IsEntryVerdict Supported entry (Ok _) = Supported entry
IsEntryVerdict Supported entry (Err (Unsupported class)) = (class ≡ entry.class) × ¬ Supported entry
IsEntryVerdict Supported entry (Err Claim) = ⊥

-- and of a whole list
abbrev pub IsListVerdict : (Entry → Type 0) → List Entry → Result Unit Refusal → Type 0
IsListVerdict Supported entries (Ok _) = (entry : Entry) → Contains entries entry → Supported entry
IsListVerdict Supported entries (Err (Unsupported class)) = IsFirstUnsupported Supported entries class
IsListVerdict Supported entries (Err Claim) = ⊥
