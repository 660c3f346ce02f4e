-- The set has just the lion's square.
use Rattle.dob_pieces.proofs.Common.{Mover}
use Rattle.dob_pieces.proofs.Attacks.{lion_at, lion_mask}
use Rattle.dob_pieces.proofs.board.Board.own_lion_square.Goals as goal

pub lowest-requires : goal.lowest-requires
lowest-requires c = lion_mask c.requires.0 Mover _ c.requires.1.0 c.requires.1.1 c.requires.2.own_lion_is

pub returns : goal.returns
returns c = λ setup two are. lion_at setup Mover _ c.lowest.result are.own_lion_is c.lowest.ensures
