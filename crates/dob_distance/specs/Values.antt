-- Who wins, and in how many plies at least.
use Rattle.std.specs.Prelude.{ℕ, zero, suc, ◌≤◌, ◌⊎◌}
use Rattle.dob_pieces.specs.declared.profile.Profile.{Profile}
use Rattle.dob_pieces.specs.declared.setup.Setup.{Setup}
use Rattle.dob_moves.specs.declared.game_move.Move.{Move}
use Rattle.dob_moves.specs.declared.position_status.Status.TheVariants.{Caught, Tried, Stuck, Open}
use Rattle.dob_moves.specs.Moves.{Goes}
use Rattle.dob_moves.specs.Statuses.{HasStatus}
use Rattle.dob_distance.specs.declared.value.Value.{Value}
use Rattle.dob_distance.specs.declared.value.Value.TheVariants.{Win, Loss, Draw}

-- the side to move has lost before any move
abbrev pub HasLost : Profile → Setup → Type 0
HasLost profile p = HasStatus profile p Tried ⊎ HasStatus profile p Stuck

abbrev mutual
  -- The side to move can force a win within n plies: it catches the lion now, or some move leads to a position
  -- that the other side has lost within n - 1.
  pub Won : Profile → ℕ → Setup → Type 0
  Won profile zero p = ⊥
  Won profile (suc n) p = HasStatus profile p Caught ⊎ (HasStatus profile p Open × (move : Move) × (q : Setup) × Goes profile p move q × Lost profile n q)

  -- The side to move can't keep from losing within n plies: it has lost, or each of its moves leads to a position
  -- that the other side has won within n - 1.
  pub Lost : Profile → ℕ → Setup → Type 0
  Lost profile zero p = HasLost profile p
  Lost profile (suc n) p = HasLost profile p ⊎ (HasStatus profile p Open × ((move : Move) (q : Setup) → Goes profile p move q → Won profile n q))

-- the value of a position: a win or a loss in the least number of plies in which it can be forced, or else a draw
abbrev pub HasValue : Profile → Setup → Value → Type 0
HasValue profile p (Win plies) = Won profile plies p × ((n : ℕ) → Won profile n p → plies ≤ n)
HasValue profile p (Loss plies) = Lost profile plies p × ((n : ℕ) → Lost profile n p → plies ≤ n)
HasValue profile p Draw = (n : ℕ) → (¬ Won profile n p) × (¬ Lost profile n p)
