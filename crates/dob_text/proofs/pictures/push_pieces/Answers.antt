-- One piece more is drawn.
use Rattle.dob_text.proofs.Common.{◌*◌, ◌++◌, ◌+◌, ◌∙◌, ap, string_bytes, hand_left, hand_top, piece_picture}
use Rattle.dob_text.proofs.Joins.{one_more}
use Rattle.dob_text.proofs.pictures.push_pieces.Goals as goal

pub loop-place-preserved : goal.loop-place-preserved
loop-place-preserved c =
    one_more (λ place. piece_picture c.args.piece (hand_left c.args.piece.side + 100 * place) (hand_top c.args.piece.side c.args.row))
    c.loop-place.place _ _ _ c.loop-place.invariant
    (c.in_ok-push_piece.ensures
    ∙ ap (λ first. string_bytes c.loop-place.text ++ piece_picture c.args.piece (first + 100 * c.loop-place.place) c.hand_top-top.result) c.hand_left-first.ensures
    ∙ ap (λ top. string_bytes c.loop-place.text ++ piece_picture c.args.piece (hand_left c.args.piece.side + 100 * c.loop-place.place) top) c.hand_top-top.ensures)
