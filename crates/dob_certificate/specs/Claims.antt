-- What is claimed of a position, and how the lists of a certificate show it.
use Rattle.std.specs.Prelude.{ℕ, ◌-◌, ◌≤◌, ◌<◌, List}
use Rattle.dob_pieces.specs.declared.profile.Family.{Family}
use Rattle.dob_pieces.specs.declared.profile.Profile.{Profile}
use Rattle.dob_pieces.specs.declared.setup.Setup.{Setup}
use Rattle.dob_distance.specs.declared.value.Value.{Value}
use Rattle.dob_distance.specs.declared.value.Value.TheVariants.{Win, Loss, Draw}
use Rattle.dob_distance.specs.Values.{Won, Lost, HasValue}
use Rattle.dob_certificate.specs.declared.claim.Claim.{Claim}
use Rattle.dob_certificate.specs.declared.claim.Claim.TheVariants.{Exactly, LostWithin, WonWithin}
use Rattle.dob_certificate.specs.declared.entry.Entry.{Entry}
use Rattle.dob_certificate.specs.declared.entry.TheConstants.{EVER}
use Rattle.dob_certificate.specs.Lost.{IsSaidLost, IsAnswered, SupportsAllLost}
use Rattle.dob_certificate.specs.Held.{IsSaidHeld, IsSafe, SupportsAllHeld}

-- the claim holds of the position: it has that value, or it is lost or won within so many plies
abbrev pub Holds : Profile → Setup → Claim → Type 0
Holds profile p (Exactly value) = HasValue profile p value
Holds profile p (LostWithin plies) = Lost profile plies p
Holds profile p (WonWithin plies) = Won profile plies p

-- ---- what the lists show

-- won within so many plies: the side to move catches the lion, or has a reply to what is lost within one ply less
abbrev pub ShowsWon : Family → List Entry → Setup → ℕ → Type 0
ShowsWon family lost p plies = (0 < plies) × IsAnswered family lost (plies - 1) p

-- a loss in so many plies, and no fewer
abbrev pub ShowsLoss : Family → List Entry → List Entry → Setup → ℕ → Type 0
ShowsLoss family lost held p plies = IsSaidLost family lost plies p × (0 < plies → IsSaidHeld family held (plies - 1) p)

-- a win in so many plies, and no fewer
abbrev pub ShowsWin : Family → List Entry → List Entry → Setup → ℕ → Type 0
ShowsWin family lost held p plies = ShowsWon family lost p plies × (2 ≤ plies → IsSafe family held (plies - 2) p)

-- a draw: the position is never lost, and neither is what any of its moves leads to
abbrev pub ShowsDraw : Family → List Entry → Setup → Type 0
ShowsDraw family held p = IsSaidHeld family held EVER p × IsSafe family held EVER p

-- a value
abbrev pub ShowsValue : Family → List Entry → List Entry → Setup → Value → Type 0
ShowsValue family lost held p (Loss plies) = ShowsLoss family lost held p plies
ShowsValue family lost held p (Win plies) = ShowsWin family lost held p plies
ShowsValue family lost held p Draw = ShowsDraw family held p

-- the lists show the claim
abbrev pub Show : Family → List Entry → List Entry → Setup → Claim → Type 0
Show family lost held p (Exactly value) = ShowsValue family lost held p value
Show family lost held p (LostWithin plies) = IsSaidLost family lost plies p
Show family lost held p (WonWithin plies) = ShowsWon family lost p plies

-- the lists prove the claim: each supports its entries, and they show it
pub record Prove (family : Family) (lost held : List Entry) (p : Setup) (claim : Claim) : Type 0 where
  pub lost_supported : SupportsAllLost family lost
  pub held_supported : SupportsAllHeld family held
  pub shown : Show family lost held p claim
