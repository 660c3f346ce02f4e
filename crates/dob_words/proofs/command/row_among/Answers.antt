-- The row's name is the one.
use Rattle.dob_words.proofs.Common.{◌∙◌, map, sym, list_any_at, bytes_eq, list_any-map, row_said}
use Rattle.dob_words.proofs.command.row_among.Goals as goal

pub returns-then-eq : goal.returns-then-eq
returns-then-eq c =
    sym (sym (list_any-map (λ n. bytes_eq n c.args.name.now) (λ r. r.0) (map row_said c.args.rows.now))
    ∙ (sym (list_any-map (λ r. bytes_eq r.0 c.args.name.now) row_said c.args.rows.now)
    ∙ list_any_at (λ x. bytes_eq (row_said x).0 c.args.name.now) c.args.rows.now c.loop-row.row-index _ c.loop-row-test.true
    (sym c.eq.ensures ∙ c.if-eq.true)))
