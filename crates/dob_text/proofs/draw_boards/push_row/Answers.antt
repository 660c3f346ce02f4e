-- The border, the row's name, its cells and its name again, one after another.
use Rattle.std.proofs.lemmas.Result.{on_ok_weaker}
use Rattle.dob_text.proofs.Joins.{seven}
use Rattle.dob_text.proofs.draw_boards.push_row.Goals as goal

pub returns : goal.returns
returns c =
    on_ok_weaker c.push_byte.result
    (λ last. seven _ _ _ _ _ _ _ _ _ _ _ _ _ _ _ c.in_ok-push_str.ensures.bytes c.in_ok-push_row_name.ensures c.in_ok-push_str-2.ensures.bytes
    c.in_ok-push_cells.ensures c.in_ok-push_str-3.ensures.bytes c.in_ok-push_row_name-2.ensures last)
    c.push_byte.ensures
