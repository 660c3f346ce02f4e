-- The squares filled so far have the cells of their letters.
use Rattle.dob_text.proofs.Common.{◌<◌, ◌≡◌, None, get_or, length, ℕ, letter_of, letter_place}
use Rattle.dob_text.proofs.boards.board_of.Given as goal

abbrev pub invariant-loop-square : goal.invariant-loop-square
invariant-loop-square l = record {
  size : length l.board ≡ 12;
  letters : (k : ℕ) → k < l.square → get_or l.grid (letter_place k) 0 ≡ letter_of (get_or l.board k None);
}
