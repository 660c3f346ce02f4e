-- The greatest distance so far is the greatest that the entries so far count, or they count none.
use Rattle.dob_share.proofs.Common.{IsGreatestIn, moves_at, tally}
use Rattle.dob_share.proofs.cells.greatest_win.Given as goal

abbrev pub invariant-loop-offset : goal.invariant-loop-offset
invariant-loop-offset l = IsGreatestIn (λ plies. tally (moves_at plies) l.pool l.slot.start l.offset) l.greatest
