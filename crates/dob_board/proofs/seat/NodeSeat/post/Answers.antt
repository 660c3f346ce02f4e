-- To post a batch keeps the rule.
use Rattle.dob_board.proofs.Allowed.{posts_asks}
use Rattle.dob_board.proofs.seat.NodeSeat.post.Goals as goal

pub fetch_add-requires : goal.fetch_add-requires
fetch_add-requires c =
    rw (c.deref.ensures, c.posted_index-word.ensures) (posts_asks c.args.self.now c.args.to c.requires.node c.requires.other c.requires.black c.requires.few)
