-- The squares below the index are drawn.
use Rattle.dob_text.proofs.Common.{◌++◌, ◌≡◌, None, map, slice_index_or, concat, range_with_len, string_bytes, square_picture}
use Rattle.dob_text.proofs.pictures.push_board.Given as goal

abbrev pub invariant-loop-index : goal.invariant-loop-index
invariant-loop-index l =
    string_bytes l.text ≡ string_bytes l.initial.text
    ++ concat (map (λ square. square_picture (slice_index_or l.fn.board square None) square) (range_with_len 0 l.index))
