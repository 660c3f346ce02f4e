-- The row that has one is one of them.
use Rattle.dob_words.proofs.Common.{◌∙◌, ap, sym, list_any_at, list_any-map, is_stream_in, row_said}
use Rattle.std.proofs.Common.{is_some}
use Rattle.dob_words.proofs.command.misplaced.stream_of.Goals as goal

pub returns-in-Some : goal.returns-in-Some
returns-in-Some c =
    sym (sym (list_any-map (is_stream_in c.args.name.now c.args.inner.now) row_said c.args.rows.now)
    ∙ list_any_at (λ row. is_stream_in c.args.name.now c.args.inner.now (row_said row)) c.args.rows.now c.loop-row.row-index _ c.loop-row-test.true
    (sym c.stream_in.ensures ∙ ap is_some c.in-Some.is))
