-- A row of one of the four lists has a stream.
use Rattle.dob_words.proofs.Common.{◌∙◌, Bool, List, ap, list_any, is_stream_in}
use Rattle.dob_words.specs.Forms.{Row, first_rows, last_rows, later_rows, middle_rows}
use Rattle.dob_words.proofs.FourLists.{found_in_four}
use Rattle.dob_words.proofs.command.misplaced_in.Goals as goal

pub returns : goal.returns
returns c =
    let is : Row → Bool = is_stream_in c.args.name.now c.args.inner.now in
    let among : List Row → Bool = list_any is in
    rw (c.or-3.ensures, c.or-2.ensures, c.or.ensures)
    (found_in_four is first_rows middle_rows later_rows last_rows c.stream_of.result c.stream_of-2.result c.stream_of-3.result
    c.stream_of-4.result (c.stream_of.ensures ∙ ap among c.first_rows.ensures) (c.stream_of-2.ensures ∙ ap among c.middle_rows.ensures)
    (c.stream_of-3.ensures ∙ ap among c.later_rows.ensures) (c.stream_of-4.ensures ∙ ap among c.last_rows.ensures))
