-- What a move of a family's position leads to.
use Rattle.std.specs.Prelude.{◌≡◌}
use Rattle.dob_pieces.specs.declared.profile.Family.{Family}
use Rattle.dob_pieces.specs.declared.setup.Setup.{Setup}
use Rattle.dob_moves.specs.declared.game_move.Move.{Move}
use Rattle.dob_moves.specs.declared.position_status.Status.TheVariants.{Open}
use Rattle.dob_moves.specs.Moves.{Goes}
use Rattle.dob_moves.specs.Statuses.{HasStatus}
use Rattle.dob_rank.specs.Families.{IsPositionOf}

-- The position is open, and the move leads from it to a position of the family, and to no other setup.
pub record IsOutcome (family : Family) (p : Setup) (played : Move) (q : Setup) : Type 0 where
  pub is_open : HasStatus family.profile p Open
  pub member : IsPositionOf family q
  pub goes : Goes family.profile p played q
  pub alone : (r : Setup) → Goes family.profile p played r → q ≡ r
