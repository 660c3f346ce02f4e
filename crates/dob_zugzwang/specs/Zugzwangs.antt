-- Positions in which whoever has to move would rather not.
use Rattle.std.specs.Prelude.{ℤ, pos, neg_ℤ, ◌+ℤ◌, ◌<ℤ◌}
use Rattle.dob_pieces.specs.declared.profile.Profile.{Profile}
use Rattle.dob_pieces.specs.declared.setup.Setup.{Setup}
use Rattle.dob_pieces.specs.Setups.{turned}
use Rattle.dob_moves.specs.declared.position_status.Status.TheVariants.{Open}
use Rattle.dob_moves.specs.Statuses.{HasStatus}
use Rattle.dob_distance.specs.declared.value.Value.{Value}
use Rattle.dob_distance.specs.declared.value.Value.TheVariants.{Win, Loss, Draw}

-- what a value is worth to the side to move
abbrev pub worth : Value → ℤ
worth (Win plies) = pos 1
worth Draw = pos 0
worth (Loss plies) = neg_ℤ (pos 1)

-- together two values are worth less than nothing
abbrev pub IsWorse : Value → Value → Type 0
IsWorse value turn_value = (worth value +ℤ worth turn_value) <ℤ pos 0

-- The position and its turn, the same board with the other side to move, are both open. A position is seen from the side to move: so its
-- turn is the turned setup.
abbrev pub AreBothOpen : Profile → Setup → Type 0
AreBothOpen profile p = HasStatus profile p Open × HasStatus profile (turned p) Open

-- Both are open, have these values, where Has says which one a position has, and together are worth less than nothing: each side would
-- rather let the other one move.
pub record IsZugzwang (profile : Profile) (Has : Setup → Value → Type 0) (p : Setup) (value turn_value : Value) : Type 0 where
  pub opens : AreBothOpen profile p
  pub has : Has p value
  pub turn_has : Has (turned p) turn_value
  pub worse : IsWorse value turn_value
