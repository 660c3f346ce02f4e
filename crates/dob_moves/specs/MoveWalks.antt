-- A walk over the moves of a position.
use Rattle.dob_pieces.specs.declared.profile.Profile.{Profile}
use Rattle.dob_pieces.specs.declared.setup.Setup.{Setup}
use Rattle.dob_pieces.specs.Boards.{IsBoardOf}
use Rattle.dob_pieces.specs.Setups.{IsLegal, turned}
use Rattle.dob_moves.specs.declared.position_status.Status.TheVariants.{Open}
use Rattle.dob_moves.specs.declared.walks.Walk.{Walk}
use Rattle.dob_moves.specs.Statuses.{AreMoves, HasStatus}

-- its moves are those of the position by the rules of the profile, and its board is what the enemy sees of an open one
pub record IsWalk (profile : Profile) (p : Setup) (walk : Walk) : Type 0 where
  pub legal : IsLegal p
  pub moves : AreMoves profile p walk.moves.items
  pub seen : HasStatus profile p Open → IsBoardOf (turned p) walk.seen
