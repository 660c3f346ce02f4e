-- The deepest of the pairs so far.
use Rattle.dob_zugzwang.proofs.Common.{take, IsDeepest}
use Rattle.dob_zugzwang.proofs.counts.deepest.Given as goal

abbrev pub invariant-loop-pair : goal.invariant-loop-pair
invariant-loop-pair l = IsDeepest (take l.pair-index l.pairs) l.best
