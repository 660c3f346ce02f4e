-- The steps from the squares below the index are taken.
use Rattle.dob_pieces.specs.Lists.{each_below}
use Rattle.dob_unmove.specs.Walks.{TakesAll, unsteps_from}
use Rattle.dob_reference.proofs.walk.take_unsteps.Given as goal

abbrev pub invariant-loop-index : goal.invariant-loop-index
invariant-loop-index g l =
    TakesAll (g.T.Taker.takes l.after l.taker) l.initial.found.items (each_below (unsteps_from l.after l.kind l.to) l.index) l.found.items
