-- Positions with the same pieces, and those that are too deep for a table.
use Rattle.std.specs.Prelude.{ℕ, ◌<◌, ◌≡◌}
use Rattle.dob_pieces.specs.declared.profile.Profile.{Profile}
use Rattle.dob_pieces.specs.declared.setup.Setup.{Setup}
use Rattle.dob_pieces.specs.declared.kind.HandKind.{HandKind}
use Rattle.dob_pieces.specs.Profiles.{IsAllowed}
use Rattle.dob_pieces.specs.Setups.{IsLegal, total}
use Rattle.dob_distance.specs.declared.value.TheConstants.{MAX_DISTANCE}
use Rattle.dob_distance.specs.Entries.{HasDistance}

-- some member is won or lost, in more plies than a table's entry can say
abbrev pub SomeTooDeep : Profile → (Setup → Type 0) → Type 0
SomeTooDeep profile IsMember = (q : Setup) × IsMember q × (n : ℕ) × (MAX_DISTANCE < n) × HasDistance profile q n

-- a position of the profile with the same pieces
pub record HasSamePieces (profile : Profile) (p q : Setup) : Type 0 where
  pub legal : IsLegal q
  pub allowed : IsAllowed profile q
  pub same : (kind : HandKind) → total kind q ≡ total kind p
