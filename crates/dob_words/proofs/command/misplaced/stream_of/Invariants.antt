-- None of the rows so far has one.
use Rattle.dob_words.proofs.Common.{◌≡◌, false, map, take, list_any, is_stream_in, row_said}
use Rattle.dob_words.proofs.command.misplaced.stream_of.Given as goal

abbrev pub invariant-loop-row : goal.invariant-loop-row
invariant-loop-row l = list_any (λ row. is_stream_in l.name l.inner row) (map row_said (take l.row-index l.rows)) ≡ false
