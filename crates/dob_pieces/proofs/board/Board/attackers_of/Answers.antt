-- the kind's pieces from which a step leads to the target
use Rattle.dob_pieces.proofs.board.Board.attackers_of.Goals as goal

pub returns : goal.returns
returns c = λ setup are. c.and.ensures _ _ (c.own_of.ensures setup are) c.sources.ensures
