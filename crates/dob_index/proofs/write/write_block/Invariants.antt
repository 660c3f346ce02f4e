-- The runs so far are written, and the count is of their classes.
use Rattle.dob_index.proofs.Common.{◌+◌, ◌<◌, ◌≡◌, ◌≤◌, ◌⊎◌, get_or, length, ℕ, classes_to_block, classes_to_run, IsKeptRun, entries_at, row_at}
use Rattle.dob_index.proofs.write.write_block.Given as goal

abbrev pub invariant-loop-lions : goal.invariant-loop-lions
invariant-loop-lions l = record {
  size : length l.words ≡ length l.fn.words;
  count : classes_to_block l.fn.family l.fn.block + l.count ≡ classes_to_run l.fn.family l.fn.block l.lions;
  at : l.at ≡ entries_at l.fn.family.set l.fn.block l.lions;
  first_is : get_or l.words (row_at l.fn.block) 0 ≡ 0;
  before_is : get_or l.words (row_at l.fn.block + 100) 0 ≡ l.fn.before;
  runs : (k : ℕ) → k < l.lions → IsKeptRun l.fn.family l.fn.block k l.at l.words;
  others : (i : ℕ) → (i < row_at l.fn.block) ⊎ (row_at (l.fn.block + 1) ≤ i) → (i < l.fn.first) ⊎ (l.at ≤ i) → get_or l.words i 0 ≡ get_or l.fn.words i 0;
}
