-- The table is the file's, so what it is asked the file is asked.
use Rattle.dob_query.proofs.Common.{err_from_is_err_and, shelf_change}
use Rattle.dob_query.proofs.Asking.{by_table, opening_asks}
use Rattle.dob_query.proofs.questions.answer_by_table.Goals as goal

pub returns-in_err-table : goal.returns-in_err-table
returns-in_err-table g c =
    let p = err_from_is_err_and c.from_residual.result c.from_residual.ensures.1 in
    let opened = c.in_err-table.ensures.opened in
    rw (p.1, p.2) (
      (opening_asks c.args.question ((g.S.Shelf.state c.args.shelf.now).has c.args.file.now) c.args.position.now.setup _ opened.0.0, opened.0.1),
      opened.1,
    )

pub returns : goal.returns
returns g c =
    let opened = c.in_ok-table.ensures.opened in (
      by_table (shelf_change (g.S.Shelf.state c.args.shelf.now) (g.S.Shelf.state c.open.new.shelf)) c.args.question c.args.file.now c.in_ok-table.table
          c.args.position.now.setup c.answer_in_table.result opened.0.0 opened.0.1 c.answer_in_table.ensures.ok c.answer_in_table.ensures.fault,
      opened.1,
    )
