-- Of each kind those that step to the target.
use Rattle.dob_pieces.proofs.Attacks.{attackers_are}
use Rattle.dob_pieces.proofs.board.Board.attackers.Goals as goal

pub returns : goal.returns
returns c = λ setup are.
    attackers_are setup c.args.target _
    (c.or-4.ensures _ _
    (c.or-3.ensures _ _
    (c.or-2.ensures _ _
    (c.or.ensures _ _ (c.attackers_of.ensures setup are) (c.attackers_of-2.ensures setup are)) (c.attackers_of-3.ensures setup are))
    (c.attackers_of-4.ensures setup are)) (c.attackers_of-5.ensures setup are))
