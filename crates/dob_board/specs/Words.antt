-- The words of a board of n nodes, and the state of the ring that they show.
use Rattle.std.specs.Prelude.{ℕ, ◌+◌, ◌*◌, List, Bool, slice_index, ◌==◌}
use Rattle.dob_safra.specs.declared.token.Token.{Token}
use Rattle.dob_safra.specs.Rings.{Ring}
use Rattle.dob_board.specs.declared.halt.Halt.{Halt}
use Rattle.dob_board.specs.declared.halt.Halt.TheVariants.{Running, Ended, Failed}

-- Word 0 is n, word 1 the token, and word 2 the halt: 0 while the run goes on, 1 where it ended, 2 + i where node i failed.
-- Then come the counts of batches posted, and those of batches taken, row by row: what i posted to j, and what j took
-- of i, in row i and column j.
abbrev pub posted_word : ℕ → ℕ → ℕ → ℕ
posted_word n i j = 3 + (i * n + j)

abbrev pub taken_word : ℕ → ℕ → ℕ → ℕ
taken_word n i j = 3 + (n * n + (i * n + j))

abbrev pub word_count : ℕ → ℕ
word_count n = 3 + (n * n + n * n)

-- the halt word
abbrev pub halt_word : Halt → ℕ
halt_word Running = 0
halt_word Ended = 1
halt_word (Failed node) = 2 + node

-- the halt after it was found as it was and, if the run went on, exchanged for another
abbrev pub halt_after : Halt → Halt → Halt
halt_after Running mark = mark
halt_after Ended mark = Ended
halt_after (Failed node) mark = Failed node

-- the ring that the words show, with these colours and that token
abbrev pub ring_of : ℕ → List ℕ → (ℕ → Bool) → Token → Ring
ring_of n words black token = record {
  posted = λ i j. slice_index words (posted_word n i j);
  taken = λ i j. slice_index words (taken_word n i j);
  black = black;
  token = token;
  announced = slice_index words 2 == 1;
}
