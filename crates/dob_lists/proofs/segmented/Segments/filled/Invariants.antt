-- So many whole segments stand.
use Rattle.dob_lists.proofs.Segmentation.{AreCopies}
use Rattle.dob_lists.proofs.segmented.Segments.filled.Given as goal

abbrev pub invariant-loop-number : goal.invariant-loop-number
invariant-loop-number g l = AreCopies l.item l.segment_length.items l._number l.segments.items
