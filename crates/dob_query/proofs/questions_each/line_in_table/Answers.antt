-- The line's first fault as a text, or what the table says of its position.
use Rattle.std.proofs.lemmas.Result.{err_from_is_err_and}
use Rattle.dob_query.proofs.EachRight.{line_in}
use Rattle.dob_query.proofs.questions_each.line_in_table.Goals as goal

pub returns-in_err-position : goal.returns-in_err-position
returns-in_err-position c =
    let p = err_from_is_err_and c.from_residual.result c.from_residual.ensures.1 in
    rw (p.1, p.2) c.in_err-position.ensures

pub returns : goal.returns
returns c =
    line_in c.args.question c.args.table.now c.args.line.now c.in_ok-position.position.setup c.answer_in_table.result c.in_ok-position.ensures
    c.answer_in_table.ensures.ok c.answer_in_table.ensures.fault
