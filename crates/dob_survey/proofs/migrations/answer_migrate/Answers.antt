-- The table is the file's, and what is kept under the other name is its file in the second format.
use Rattle.dob_survey.proofs.Common.{◌∙◌, Bool, inl, inr, subst, err_from_is_err_and, IsTrue, others_kept, shelf_change}
use Rattle.dob_files.proofs.Kept.{answered_later, fails_later, filled_answers, others_after, same_chain, shelf_fails, shelf_keeps}
use Rattle.dob_survey.proofs.Migrated.{keeping_migrates, migrate_lines}
use Rattle.dob_survey.proofs.migrations.answer_migrate.Goals as goal

pub returns-in_err-table : goal.returns-in_err-table
returns-in_err-table g c =
    let p = err_from_is_err_and c.from_residual.result c.from_residual.ensures.1 in
    let opened = c.in_err-table.ensures.opened in
    rw (p.1, p.2) (((inl (inl opened.0.0), opened.1), opened.0.1), others_kept c.args.out.now _ _ opened.1)

pub returns-in_err-sink : goal.returns-in_err-sink
returns-in_err-sink g c =
    let p = err_from_is_err_and c.from_residual-in_err-sink.result c.from_residual-in_err-sink.ensures.1 in
    let opened = c.in_ok-table.ensures.opened in
    let same = same_chain _ _ _ opened.1 c.in_err-sink.ensures.kept in
    rw (p.1, p.2) (
      (
        (inr (shelf_keeps c.in_err-sink.field-0.0), same),
        fails_later _ _ _ _ opened.0.1 (shelf_fails c.make.result _ _ c.in_err-sink.field-0.0 c.in_err-sink.ensures.failed),
      ),
      others_kept c.args.out.now _ _ same,
    )

pub returns : goal.returns
returns g c =
    let opened = c.in_ok-table.ensures.opened in
    let made = c.in_ok-sink.ensures in
    let old = g.S.Shelf.state c.args.shelf.now in
    let mid = g.S.Shelf.state c.make.new.self in
    let new = g.S.Shelf.state c.keep_filled.new.shelf in
    let same = same_chain old.has _ mid.has opened.1 made.kept in
    let table = c.in_ok-table.table in (
      answered_later old mid new _ _ _ _ c.keep_filled.result (fails_later _ _ _ _ opened.0.1 made.failed)
          (λ text kept. migrate_lines (shelf_change old new) c.args.file.now c.args.out.now mid (made.told ∙ c.in_ok-table.ensures.told) table opened.0.0 text kept)
          (keeping_migrates (shelf_change old new) c.args.file.now mid table opened.0.0 same)
          (filled_answers (shelf_change mid new) c.args.out.now _ _ _ c.fill_anew-filled.result c.keep_filled.result
          (λ tells. made.empty (subst (λ (b : Bool). IsTrue b) made.told tells)) c.fill_anew-filled.ensures c.keep_filled.ensures.0),
      others_after c.args.out.now _ _ _ same c.keep_filled.ensures.1,
    )
