-- The blocks so far are written, and what stands behind the index is as it was.
use Rattle.dob_index.proofs.Common.{◌<◌, ◌≡◌, ◌≤◌, get_or, length, ℕ, classes_to_block, IsKeptBlock, entries_at, words_of}
use Rattle.dob_index.proofs.write.write_index.Given as goal

abbrev pub invariant-loop-block : goal.invariant-loop-block
invariant-loop-block l = record {
  size : words_of l.fn.family.set ≤ length l.words;
  before : l.before ≡ classes_to_block l.fn.family l.block;
  at : l.at ≡ entries_at l.fn.family.set l.block 0;
  blocks_are : (b : ℕ) → b < l.block → IsKeptBlock l.fn.family b l.at l.words;
  others : (i : ℕ) → words_of l.fn.family.set ≤ i → get_or l.words i 0 ≡ get_or l.fn.words i 0;
}
