-- The walk is over the position's moves.
use Rattle.dob_probe.proofs.by_value.moves_by.Goals as goal

pub moves_in_order-requires-clause-walk : goal.moves_in_order-requires-clause-walk
moves_in_order-requires-clause-walk g c = rw c.of.ensures at c.start-status.ensures.walk
