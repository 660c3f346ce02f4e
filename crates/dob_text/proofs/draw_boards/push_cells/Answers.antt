-- The three cells, one after another.
use Rattle.std.proofs.lemmas.Result.{on_ok_weaker}
use Rattle.dob_text.proofs.Joins.{three}
use Rattle.dob_text.proofs.draw_boards.push_cells.Goals as goal

pub returns : goal.returns
returns c =
    on_ok_weaker c.push_cell-3.result (λ last. three _ _ _ _ _ _ _ c.in_ok-push_cell.ensures c.in_ok-push_cell-2.ensures last) c.push_cell-3.ensures
