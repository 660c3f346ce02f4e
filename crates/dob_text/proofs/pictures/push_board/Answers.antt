-- One square more is drawn.
use Rattle.dob_text.proofs.Common.{◌++◌, ◌∙◌, None, ap, slice_index_or, string_bytes, square_picture}
use Rattle.dob_text.proofs.Joins.{one_more}
use Rattle.dob_text.proofs.pictures.push_board.Goals as goal

pub loop-index-preserved : goal.loop-index-preserved
loop-index-preserved c =
    one_more (λ square. square_picture (slice_index_or c.args.board.now square None) square) c.loop-index.index _ _ _ c.loop-index.invariant
    (c.in_ok-push_square.ensures
    ∙ ap (λ square. string_bytes c.loop-index.text ++ square_picture (slice_index_or c.args.board.now c.loop-index.index None) square) c.new.ensures)
