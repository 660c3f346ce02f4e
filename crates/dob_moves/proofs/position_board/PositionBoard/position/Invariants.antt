-- Each square below the index has its cell.
use Rattle.dob_moves.proofs.Common.{◌<◌, ◌≡◌, None, length, slice_index_or, ℕ, at}
use Rattle.dob_moves.proofs.Shown.{setup_on}
use Rattle.dob_moves.proofs.position_board.PositionBoard.position.Given as goal

abbrev pub invariant-loop-index : goal.invariant-loop-index
invariant-loop-index l =
    (length l.board ≡ 12)
    × ((k : ℕ) → k < l.index → slice_index_or l.board k None ≡ at (setup_on l.self.board) k)
