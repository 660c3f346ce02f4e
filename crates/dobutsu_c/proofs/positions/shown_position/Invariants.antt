-- The squares so far have the numbers of their cells.
use Rattle.dobutsu_c.proofs.Common.{◌<◌, ◌≡◌, None, get_or, length, ℕ, cell_number}
use Rattle.dobutsu_c.proofs.positions.shown_position.Given as goal

abbrev pub invariant-loop-square : goal.invariant-loop-square
invariant-loop-square l = record {
  size : length l.board ≡ 12;
  cells : (k : ℕ) → k < l.square → get_or l.board k 0 ≡ cell_number (get_or l.position.setup.board k None);
}
