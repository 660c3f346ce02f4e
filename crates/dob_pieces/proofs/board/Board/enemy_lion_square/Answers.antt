-- The set has just the lion's square.
use Rattle.dob_pieces.proofs.Common.{Enemy}
use Rattle.dob_pieces.proofs.Attacks.{lion_at, lion_mask}
use Rattle.dob_pieces.proofs.board.Board.enemy_lion_square.Goals as goal

pub lowest-requires : goal.lowest-requires
lowest-requires c = lion_mask c.requires.0 Enemy _ c.requires.1.0 c.requires.1.1 c.requires.2.enemy_lion_is

pub returns : goal.returns
returns c = λ setup two are. lion_at setup Enemy _ c.lowest.result are.enemy_lion_is c.lowest.ensures
