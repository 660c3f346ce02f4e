-- The classes so far are counted.
use Rattle.dob_reach.specs.Values.{AreCounted}
use Rattle.dob_reach.proofs.Valued.{MarkedBelow}
use Rattle.dob_reach.proofs.search.Reached.by_value.Given as goal

abbrev pub invariant-loop-class : goal.invariant-loop-class
invariant-loop-class l = AreCounted (MarkedBelow l.self.marks.words.items l.table.values l.class) l.table.values l.counts
