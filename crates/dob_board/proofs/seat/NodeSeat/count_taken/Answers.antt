-- To count a batch that was seen keeps the rule.
use Rattle.dob_board.proofs.Allowed.{takes_asks}
use Rattle.dob_board.proofs.seat.NodeSeat.count_taken.Goals as goal

pub fetch_add-requires : goal.fetch_add-requires
fetch_add-requires c = rw (c.deref.ensures, c.taken_index-word.ensures) (takes_asks c.args.self.now c.args.from c.requires.node c.requires.waiting)
