-- A table has one value for each position of its family.
use Rattle.dob_query.proofs.Common.{err_from_is_err_and}
use Rattle.dob_probe.proofs.Entries.{one_given}
use Rattle.dob_query.proofs.Asking.{table_gap}
use Rattle.dob_query.proofs.questions.answer_in_table.Goals as goal

pub told_by-requires-clause-single : goal.told_by-requires-clause-single
told_by-requires-clause-single c = λ held. rw c.classes.ensures.family (one_given c.args.table.now)

pub returns-in_err-told_by-clause-fault : goal.returns-in_err-told_by-clause-fault
returns-in_err-told_by-clause-fault c =
    let p = err_from_is_err_and c.from_residual-in_err-told_by.result c.from_residual-in_err-told_by.ensures.1 in
    rw (p.1, p.2) (table_gap c.args.question c.args.table.now c.args.position.now.setup c.in_err-told_by.field-0.0
    (rw c.family.ensures.family at c.in_ok-check_member.ensures.member) (rw c.classes.ensures.family at (c.in_err-told_by.ensures.fault tt tt)))

pub returns-clause-ok : goal.returns-clause-ok
returns-clause-ok c = record {
  member = rw c.family.ensures.family at c.in_ok-check_member.ensures.member;
  told = rw c.classes.ensures.family at (c.in_ok-told_by.ensures.ok tt tt);
}
