-- The classes so far are expanded.
use Rattle.dob_reach.proofs.Common.{AreExpanded, take}
use Rattle.dob_reach.proofs.parts.part_of.Given as goal

abbrev pub invariant-loop-class : goal.invariant-loop-class
invariant-loop-class l = AreExpanded l.classes.family l.marks.words.items (take l.class-index l.part) l.outcomes.items l.opens
