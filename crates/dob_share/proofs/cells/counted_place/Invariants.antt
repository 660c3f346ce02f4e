-- The entries of the run so far count no win in that distance.
use Rattle.dob_share.proofs.Common.{◌≡◌, moves_at, tally}
use Rattle.dob_share.proofs.cells.counted_place.Given as goal

abbrev pub invariant-loop-offset : goal.invariant-loop-offset
invariant-loop-offset l = tally (moves_at l.plies) l.pool l.slot.start l.offset ≡ 0
