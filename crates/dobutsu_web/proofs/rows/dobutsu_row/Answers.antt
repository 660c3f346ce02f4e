-- Which of the two tests failed.
use Rattle.std.proofs.Common.{inl, inr, arith}
use Rattle.dobutsu_web.proofs.rows.dobutsu_row.Goals as goal
use Rattle.dobutsu_web.proofs.rows.dobutsu_row.Goals.{then-row-ne-ROW_LEN-via-then-row-ne-ROW_LEN, then-row-ne-ROW_LEN-via-else-row-ne-ROW_LEN+then-block-count_blocks}

pub returns-then-row-ne-ROW_LEN-clause-room : goal.returns-then-row-ne-ROW_LEN-clause-room
returns-then-row-ne-ROW_LEN-clause-room c = λ _. (
  c.in-Ok.asked.family,
  c.in-Ok.asked.position.setup,
  c.in-Ok.ensures,
  elim c.then-row-ne-ROW_LEN.branch [
    | then-row-ne-ROW_LEN-via-then-row-ne-ROW_LEN w ↦ inr w.if-row-ne-ROW_LEN.true
    | then-row-ne-ROW_LEN-via-else-row-ne-ROW_LEN+then-block-count_blocks w ↦ inl (omega (arith, w.count_blocks.ensures, w.if-block-count_blocks.true))
  ],
)
