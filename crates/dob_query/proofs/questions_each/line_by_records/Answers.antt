-- The records are those of the position of the line, which is one of the family.
use Rattle.dob_query.proofs.Common.{Global, err_from_is_err_and}
use Rattle.dob_query.proofs.Placed.{refused_line, told_line}
use Rattle.dob_query.proofs.questions_each.line_by_records.Goals as goal

pub returns-in_err-position-clause-answer : goal.returns-in_err-position-clause-answer
returns-in_err-position-clause-answer g c =
    let p = err_from_is_err_and c.from_residual.result c.from_residual.ensures.1 in
    rw (p.1, p.2) c.in_err-position.ensures

pub returns-in_err-check_member-clause-answer : goal.returns-in_err-check_member-clause-answer
returns-in_err-check_member-clause-answer g c =
    let p = err_from_is_err_and c.from_residual-in_err-check_member.result c.from_residual-in_err-check_member.ensures.1 in
    rw (p.1, p.2) (refused_line c.args.question (g.R.Source.shows c.args.source.now) c.args.format c.args.classes.now.family c.args.line.now
    c.in_ok-position.position.setup Global c.in_err-check_member.field-0.0 c.in_ok-position.ensures c.in_err-check_member.ensures.refused)

pub returns-clause-answer : goal.returns-clause-answer
returns-clause-answer g c =
    told_line c.args.question (g.R.Source.shows c.args.source.now) c.args.format c.args.classes.now.family c.args.line.now c.in_ok-position.position.setup
    c.answer_by_records.result c.in_ok-position.ensures c.in_ok-check_member.ensures.member c.answer_by_records.ensures.told.ok c.answer_by_records.ensures.fault
