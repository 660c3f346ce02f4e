-- No move leads to what is said to be lost.
use Rattle.dob_certify.proofs.Shortest.{loss_reply}
use Rattle.dob_certify.proofs.replies.found_reply.Goals as goal

pub shortest-requires : goal.shortest-requires
shortest-requires c = rw c.of-position.ensures c.requires

pub said_lost-requires-clause-member : goal.said_lost-requires-clause-member
said_lost-requires-clause-member c = rw c.of-position.ensures c.requires

pub returns-in-None : goal.returns-in-None
returns-in-None c =
    rw c.loss.ensures (loss_reply c.args.classes.now.family c.args.lost.now c.args.position.now.setup c.said_lost.result c.in_default.ensures
    (rw c.of-position.ensures at c.in-None.ensures) (rw c.of-position.ensures at c.said_lost.ensures))
