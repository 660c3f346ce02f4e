-- None of the rows so far has that name.
use Rattle.dob_words.proofs.Common.{◌≡◌, false, map, take, list_any, bytes_eq, row_said}
use Rattle.dob_words.proofs.command.row_among.Given as goal

abbrev pub invariant-loop-row : goal.invariant-loop-row
invariant-loop-row l = list_any (λ n. bytes_eq n l.name) (map (λ r. r.0) (map row_said (take l.row-index l.rows))) ≡ false
