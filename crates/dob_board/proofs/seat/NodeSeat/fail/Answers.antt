-- A failure keeps the rule.
use Rattle.dob_board.proofs.Halting.{fails_asks}
use Rattle.dob_board.proofs.seat.NodeSeat.fail.Goals as goal

pub compare_exchange-found-requires : goal.compare_exchange-found-requires
compare_exchange-found-requires c = rw c.deref.ensures (fails_asks c.args.self.now)
