-- The squares filled so far have the cells of their numbers.
use Rattle.dobutsu_c.proofs.Common.{◌<◌, ◌≡◌, None, get_or, length, ℕ, cell_number}
use Rattle.dobutsu_c.proofs.positions.board_of.Given as goal

abbrev pub invariant-loop-square : goal.invariant-loop-square
invariant-loop-square l = record {
  size : length l.board ≡ 12;
  cells : (k : ℕ) → k < l.square → get_or l.numbers k 0 ≡ cell_number (get_or l.board k None);
}
