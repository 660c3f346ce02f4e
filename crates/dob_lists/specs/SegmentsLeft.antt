-- What is left of a walk over a list in segments.
use Rattle.std.specs.Prelude.{List, drop}
use Rattle.dob_lists.specs.declared.segmented.SegmentsIter.{SegmentsIter}

-- the items from the next one on
abbrev pub rest_of : {T : Type 0} → SegmentsIter T → List T
rest_of walk = drop walk.next walk.list.now
