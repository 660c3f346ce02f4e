-- Each square below the index has its cell.
use Rattle.dob_pieces.proofs.Common.{◌<◌, ◌≡◌, None, length, slice_index_or, ℕ, at, turned_cell, turned_square}
use Rattle.dob_pieces.proofs.setup.Setup.turned.Given as goal

abbrev pub invariant-loop-index : goal.invariant-loop-index
invariant-loop-index l =
    (length l.board ≡ 12)
    × ((k : ℕ) → k < l.index → slice_index_or l.board k None ≡ turned_cell (at l.self (turned_square k)))
