-- chicks, elephants and giraffes
use Rattle.dob_pieces.proofs.board.Board.others.Goals as goal

pub returns : goal.returns
returns c = λ setup are. c.or-2.ensures _ _ (c.or.ensures _ _ are.chicks_are are.elephants_are) are.giraffes_are
