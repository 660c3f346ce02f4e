-- A fault of the table is one of the file.
use Rattle.std.proofs.lemmas.Result.{err_from_is_err_and}
use Rattle.dob_survey.proofs.Checked.{check_fault_holds}
use Rattle.dob_survey.proofs.checks.answer_check.Goals as goal

pub returns-in_err-check_table : goal.returns-in_err-check_table
returns-in_err-check_table g c =
    let p = err_from_is_err_and c.from_residual-in_err-check_table.result c.from_residual-in_err-check_table.ensures.1 in
    let opened = c.in_ok-table.ensures.opened in
    rw (p.1, p.2) (
      (
        check_fault_holds ((g.S.Shelf.state c.args.shelf.now).has c.args.file.now) c.in_ok-table.table opened.0.0 c.in_err-check_table.field-0.0
            c.in_err-check_table.ensures.fault,
        opened.0.1,
      ),
      opened.1,
    )
