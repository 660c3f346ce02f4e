-- Laws on won and lost positions at different depths.
use Rattle.std.specs.Prelude.{◌≡◌, ℕ, ◌≤◌}
use Rattle.dob_pieces.specs.declared.profile.Profile.{Profile}
use Rattle.dob_pieces.specs.declared.setup.Setup.{Setup}
use Rattle.dob_pieces.specs.Setups.{IsLegal, mirrored}
use Rattle.dob_distance.specs.declared.value.Value.{Value}
use Rattle.dob_distance.specs.Values.{Won, Lost, HasValue}

-- what is won within n plies is won within any more, and likewise what is lost
abbrev pub WonStaysWon : Type 0
WonStaysWon = (profile : Profile) (n m : ℕ) (p : Setup) → n ≤ m → Won profile n p → Won profile m p

abbrev pub LostStaysLost : Type 0
LostStaysLost = (profile : Profile) (n m : ℕ) (p : Setup) → n ≤ m → Lost profile n p → Lost profile m p

-- no position is both won and lost, at whatever depths
abbrev pub NotWonAndLost : Type 0
NotWonAndLost = (profile : Profile) (n m : ℕ) (p : Setup) → Won profile n p → ¬ Lost profile m p

-- a position has at most one value
abbrev pub OneValue : Type 0
OneValue = (profile : Profile) (p : Setup) (v w : Value) → HasValue profile p v → HasValue profile p w → v ≡ w

-- the two are won at the same depths and lost at the same depths
pub record SameOutlook (profile : Profile) (p q : Setup) : Type 0 where
  pub won : (n : ℕ) → (Won profile n p → Won profile n q) × (Won profile n q → Won profile n p)
  pub lost : (n : ℕ) → (Lost profile n p → Lost profile n q) × (Lost profile n q → Lost profile n p)

-- a position and its mirror image are won at the same depths and lost at the same depths
abbrev pub MirrorsHaveOneOutlook : Type 0
MirrorsHaveOneOutlook = (profile : Profile) (p : Setup) → IsLegal p → SameOutlook profile p (mirrored p)

-- a position's mirror image has its value
abbrev pub MirrorsHaveOneValue : Type 0
MirrorsHaveOneValue = (profile : Profile) (p : Setup) (v : Value) → IsLegal p → HasValue profile p v → HasValue profile (mirrored p) v
