-- The ways that end on the squares below the index are taken.
use Rattle.dob_pieces.specs.Lists.{each_below}
use Rattle.dob_unmove.specs.Walks.{TakesAll, undoes_at}
use Rattle.dob_reference.proofs.walk.take_all.Given as goal

abbrev pub invariant-loop-index : goal.invariant-loop-index
invariant-loop-index g l =
    TakesAll (g.T.Taker.takes l.after l.taker) l.initial.found.items (each_below (undoes_at l.after) l.index) l.found.items
