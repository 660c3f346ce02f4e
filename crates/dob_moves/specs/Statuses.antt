-- The status of a position, and the list of its moves.
use Rattle.std.specs.Prelude.{◌≡◌, ℕ, ◌<◌, ◌≤◌, List, Some, Contains, AllPairs}
use Rattle.dob_pieces.specs.declared.kind.Kind.TheVariants.{Lion}
use Rattle.dob_pieces.specs.declared.kind.Side.TheVariants.{Enemy}
use Rattle.dob_pieces.specs.declared.profile.Profile.{Profile}
use Rattle.dob_pieces.specs.declared.setup.Setup.{Setup}
use Rattle.dob_pieces.specs.Setups.{at, piece_of}
use Rattle.dob_moves.specs.declared.game_move.Move.{Move}
use Rattle.dob_moves.specs.declared.position_status.Status.{Status}
use Rattle.dob_moves.specs.declared.position_status.Status.TheVariants.{Caught, Tried, Stuck, Open}
use Rattle.dob_moves.specs.Moves.{CanGo, CatchesLion, place}

-- some step of the mover ends on the enemy lion
abbrev pub CanCatch : Setup → Type 0
CanCatch p = (move : Move) × CatchesLion p move

-- the enemy lion stands on row 1
abbrev pub HasTried : Setup → Type 0
HasTried p = (square : ℕ) × (square < 3) × (at p square ≡ Some (piece_of Enemy Lion))

-- the status by the rules of a profile, in the order in which it is decided
abbrev pub HasStatus : Profile → Setup → Status → Type 0
HasStatus profile p Caught = CanCatch p
HasStatus profile p Tried = (¬ CanCatch p) × HasTried p
HasStatus profile p Stuck = (¬ CanCatch p) × (¬ HasTried p) × ((move : Move) → ¬ CanGo profile p move)
HasStatus profile p Open = (¬ CanCatch p) × (¬ HasTried p) × ((move : Move) × CanGo profile p move)

-- The list has each move of an open position by the rules of a profile, once, in the move order, and none of any other position.
pub record AreMoves (profile : Profile) (p : Setup) (moves : List Move) : Type 0 where
  pub sound : (move : Move) → Contains moves move → HasStatus profile p Open × CanGo profile p move
  pub whole : (move : Move) → HasStatus profile p Open → CanGo profile p move → Contains moves move
  pub ordered : AllPairs (λ a b. place a < place b) moves

-- the first step in the move order that catches the enemy lion
pub record IsFirstCatch (p : Setup) (move : Move) : Type 0 where
  pub catches : CatchesLion p move
  pub first : (other : Move) → CatchesLion p other → place move ≤ place other
