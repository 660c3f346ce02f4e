-- What the two lists of a certificate show of a position, as a caller lays them out.
use Rattle.std.specs.Prelude.{◌≡◌, ◌+◌, ◌⊎◌, ℕ, List, Some, length}
use Rattle.dob_pieces.specs.declared.profile.Family.{Family}
use Rattle.dob_pieces.specs.declared.setup.Setup.{Setup}
use Rattle.dob_distance.specs.declared.value.Value.TheVariants.{Win, Loss, Draw}
use Rattle.dob_certificate.specs.declared.claim.Claim.{Claim}
use Rattle.dob_certificate.specs.declared.claim.Claim.TheVariants.{Exactly, LostWithin, WonWithin}
use Rattle.dob_certificate.specs.declared.entry.Entry.{Entry}
use Rattle.dob_certificate.specs.declared.list_kind.ListKind.TheVariants.{Lost, Held}
use Rattle.dob_certificate.specs.Claims.{Holds, Prove, Show}
use Rattle.dob_certificate.specs.Lists.{IsFirstBroken, SupportsAll}
use Rattle.dobutsu_web.specs.declared.ranked.Listed.{Listed}
use Rattle.dobutsu_web.specs.Asked.{IsTextAsked}
use Rattle.dobutsu_web.specs.Ranked.{AreRanks, entries_by}

-- the claim has that number and so many plies
abbrev pub IsClaimed : Claim → ℕ → ℕ → Type 0
IsClaimed (Exactly Draw) kind plies = kind ≡ 0
IsClaimed (Exactly (Win n)) kind plies = (kind ≡ 1) × (n ≡ plies)
IsClaimed (Exactly (Loss n)) kind plies = (kind ≡ 2) × (n ≡ plies)
IsClaimed (WonWithin n) kind plies = (kind ≡ 3) × (n ≡ plies)
IsClaimed (LostWithin n) kind plies = (kind ≡ 4) × (n ≡ plies)

-- both lists are of one family
abbrev pub AreOne : Listed → Listed → Type 0
AreOne lost held = held.family ≡ lost.family

-- ---- answers

-- what is asked: of that position of the family that claim, by lists that are the ranks of representatives with as many plies
pub record AreAsked (text : List ℕ) (number kind plies : ℕ) (lost lost_plies held held_plies : List ℕ) (family : Family) (p : Setup) (claim : Claim) : Type 0 where
  pub asked : IsTextAsked text number family p
  pub claimed : IsClaimed claim kind plies
  pub lost_ranks : AreRanks family lost lost_plies
  pub held_ranks : AreRanks family held held_plies

-- the lists prove the claim, and so it holds
pub record AreProof (family : Family) (lost held : List Entry) (p : Setup) (claim : Claim) : Type 0 where
  pub proof : Prove family lost held p claim
  pub holds : Holds family.profile p claim

-- an entry isn't supported: at that place of the lost list, or of the held one, whose places are counted behind those of the lost
abbrev pub AreBroken : Family → List ℕ → List ℕ → List ℕ → List ℕ → ℕ → Type 0
AreBroken family lost lost_plies held held_plies broken = IsFirstBroken Lost family (entries_by family lost lost_plies) (Some broken)
    ⊎ (SupportsAll Lost family (entries_by family lost lost_plies) × (place : ℕ) × (broken ≡ length lost + place)
    × IsFirstBroken Held family (entries_by family held held_plies) (Some place))

-- all are, and the lists don't show the claim
pub record AreSilent (family : Family) (lost held : List Entry) (p : Setup) (claim : Claim) : Type 0 where
  pub lost_supported : SupportsAll Lost family lost
  pub held_supported : SupportsAll Held family held
  pub hidden : ¬ Show family lost held p claim

-- what a number says of it: 0 that the lists prove the claim, 30 that an entry isn't supported, at that place, and 31 that the claim isn't shown
abbrev pub IsAnswer : ℕ → Family → List ℕ → List ℕ → List ℕ → List ℕ → Setup → Claim → ℕ → Type 0
IsAnswer answer family lost lost_plies held held_plies p claim broken =
    ((answer ≡ 0) × AreProof family (entries_by family lost lost_plies) (entries_by family held held_plies) p claim)
    ⊎ (((answer ≡ 30) × AreBroken family lost lost_plies held held_plies broken)
    ⊎ ((answer ≡ 31) × AreSilent family (entries_by family lost lost_plies) (entries_by family held held_plies) p claim))

-- an answer of the position, the claim and the lists that are asked
pub record IsToldAnswer (text : List ℕ) (number kind plies : ℕ) (lost lost_plies held held_plies : List ℕ) (answer broken : ℕ) : Type 0 where
  pub family : Family
  pub setup : Setup
  pub claim : Claim
  pub asked : AreAsked text number kind plies lost lost_plies held held_plies family setup claim
  pub is : IsAnswer answer family lost lost_plies held held_plies setup claim broken

-- a list isn't one of ranks of representatives with as many plies
abbrev pub HasNoRanks : List ℕ → ℕ → List ℕ → List ℕ → List ℕ → List ℕ → Type 0
HasNoRanks text number lost lost_plies held held_plies = (family : Family) × (setup : Setup) × IsTextAsked text number family setup
    × ((¬ AreRanks family lost lost_plies) ⊎ (¬ AreRanks family held held_plies))
