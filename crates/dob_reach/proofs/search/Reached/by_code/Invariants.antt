-- The classes so far are counted.
use Rattle.dob_distance.specs.Codes.{values_of_codes}
use Rattle.dob_reach.specs.Codes.{AreCodesCounted}
use Rattle.dob_reach.proofs.Valued.{MarkedBelow}
use Rattle.dob_reach.proofs.search.Reached.by_code.Given as goal

abbrev pub invariant-loop-class : goal.invariant-loop-class
invariant-loop-class l = AreCodesCounted (MarkedBelow l.self.marks.words.items (values_of_codes l.codes) l.class) (values_of_codes l.codes) l.counts.items
