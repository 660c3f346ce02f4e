-- An announcement keeps the rule.
use Rattle.dob_board.proofs.Halting.{announces_asks}
use Rattle.dob_board.proofs.seat.NodeSeat.announce.Goals as goal

pub compare_exchange-found-requires : goal.compare_exchange-found-requires
compare_exchange-found-requires c = rw c.deref.ensures (announces_asks c.args.self.now c.requires)
