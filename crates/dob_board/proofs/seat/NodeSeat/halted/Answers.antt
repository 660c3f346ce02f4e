-- A look at the halt keeps the rule.
use Rattle.dob_board.proofs.Halting.{halts_asks}
use Rattle.dob_board.proofs.seat.NodeSeat.halted.Goals as goal

pub load-word-requires : goal.load-word-requires
load-word-requires c = rw c.deref.ensures (halts_asks c.args.self.now)
