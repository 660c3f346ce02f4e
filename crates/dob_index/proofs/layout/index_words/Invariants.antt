-- The count is of the blocks so far.
use Rattle.dob_index.proofs.Common.{◌≡◌, entries_at}
use Rattle.dob_index.proofs.layout.index_words.Given as goal

abbrev pub invariant-loop-block : goal.invariant-loop-block
invariant-loop-block l = l.count ≡ entries_at l.set l.block 0
