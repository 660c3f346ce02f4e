-- The line's name and turn are those of the piece.
use Rattle.dob_text.proofs.Common.{◌++◌, ◌∙◌, ◌∷◌, [], ap, string_bytes, letter_of_kind, use_line}
use Rattle.dob_text.proofs.pictures.push_piece.Goals as goal

pub returns : goal.returns
returns c =
    c.in_ok-push_str.ensures.bytes
    ∙ ap (λ x. string_bytes c.args.text.now ++ x)
    (c.as_str.ensures.value ∙ c.in_ok-line.ensures
    ∙ ap (λ name. use_line name c.turn_of-turn.result.now c.args.left c.args.top) c.picture_name-name.ensures
    ∙ ap (λ turn. use_line (letter_of_kind c.args.piece.kind ∷ []) turn c.args.left c.args.top) c.turn_of-turn.ensures)
