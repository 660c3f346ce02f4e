-- One of the four lists has the name.
use Rattle.dob_words.proofs.Common.{◌∙◌, Bool, List, ap, map, bytes_eq, list_any, Text}
use Rattle.dob_words.specs.Forms.{Row, first_rows, last_rows, later_rows, middle_rows}
use Rattle.dob_words.proofs.FourLists.{found_in_four}
use Rattle.dob_words.proofs.command.row_named.Goals as goal

pub returns : goal.returns
returns c =
    let names : List Row → List Text = map (λ r. r.0) in
    let is : Text → Bool = λ n. bytes_eq n c.args.name.now in
    let among : List Row → Bool = λ rs. list_any is (names rs) in
    rw (c.or-3.ensures, c.or-2.ensures, c.or.ensures)
    (found_in_four is (names first_rows) (names middle_rows) (names later_rows) (names last_rows)
    c.row_among.result c.row_among-2.result c.row_among-3.result c.row_among-4.result
    (c.row_among.ensures ∙ ap among c.first_rows.ensures) (c.row_among-2.ensures ∙ ap among c.middle_rows.ensures)
    (c.row_among-3.ensures ∙ ap among c.later_rows.ensures) (c.row_among-4.ensures ∙ ap among c.last_rows.ensures))
