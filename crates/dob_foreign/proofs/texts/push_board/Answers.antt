-- The rows and slashes, one after another.
use Rattle.dob_text.proofs.Joins.{seven}
use Rattle.dob_foreign.proofs.texts.push_board.Goals as goal

pub returns-clause-items : goal.returns-clause-items
returns-clause-items c =
    seven _ _ _ _ _ _ _ _ _ _ _ _ _ _ _ c.push_row.ensures.items c.push.ensures.items c.push_row-2.ensures.items c.push-2.ensures.items
    c.push_row-3.ensures.items c.push-3.ensures.items c.push_row-4.ensures.items
