-- The line has the text of the move.
use Rattle.std.proofs.Common.{◌∙◌, ◌+◌, ◌∷◌, [], ◌++◌, ap, codes, string_bytes}
use Rattle.std.specs.Fmt.{decimal}
use Rattle.dob_pieces.specs.Bytes.{line_feed}
use Rattle.dob_text.proofs.write_lines.push_numbered.Goals as goal

pub returns : goal.returns
returns c =
    c.in_ok-push_str.ensures.bytes
    ∙ ap (λ x. string_bytes c.args.text.now ++ x)
    (c.as_str.ensures.value ∙ c.in_ok-line.ensures.ok
    ∙ ap (λ name. decimal (c.args.before + 1) ++ (codes ". " ++ (name ++ line_feed ∷ []))) (c.as_str-name.ensures.value ∙ c.in_ok-written.ensures))
