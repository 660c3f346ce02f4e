-- The steps from the squares gone over are counted.
use Rattle.dob_moves.proofs.Common.{IsBoardOf, Setup}
use Rattle.dob_moves.proofs.MoveCounts.{AreCounted}
use Rattle.dob_moves.proofs.count.count_steps.Given as goal

abbrev pub invariant-loop-from : goal.invariant-loop-from
invariant-loop-from l = (setup : Setup) → IsBoardOf setup l.board → AreCounted setup l.from-iterator.left l.yielded l.count
