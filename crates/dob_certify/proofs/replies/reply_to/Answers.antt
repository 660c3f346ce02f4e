-- A list that supports its entries is right.
use Rattle.dob_certify.proofs.Shortest.{reply_right}
use Rattle.dob_certify.proofs.replies.reply_to.Goals as goal

pub returns-clause-right : goal.returns-clause-right
returns-clause-right c =
    reply_right c.args.classes.now.family c.args.lost.now c.args.position.now.setup c.requires.supported c.found_reply.result c.found_reply.ensures
