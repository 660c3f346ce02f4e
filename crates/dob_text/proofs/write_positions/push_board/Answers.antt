-- The rows and slashes, one after another.
use Rattle.std.proofs.lemmas.Result.{on_ok_weaker}
use Rattle.dob_text.proofs.Joins.{seven}
use Rattle.dob_text.proofs.write_positions.push_board.Goals as goal

pub returns : goal.returns
returns c =
    on_ok_weaker c.push_row-4.result
    (λ last. seven _ _ _ _ _ _ _ _ _ _ _ _ _ _ _ c.in_ok-push_row.ensures c.in_ok-push_byte.ensures c.in_ok-push_row-2.ensures
    c.in_ok-push_byte-2.ensures c.in_ok-push_row-3.ensures c.in_ok-push_byte-3.ensures last)
    c.push_row-4.ensures
