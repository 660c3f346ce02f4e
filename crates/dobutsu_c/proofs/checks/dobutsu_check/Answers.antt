-- What reading and checking give.
use Rattle.dobutsu_c.proofs.Common.{◌∙◌, ap, inl, inr, subst, sym, ClassTable, IsConsistent, whole, file_number}
use Rattle.dob_probe.specs.Faults.{IsFaultOfCheck}
use Rattle.dob_probe.proofs.Following.{consistent_has_no_break}
use Rattle.dobutsu_c.proofs.checks.dobutsu_check.Goals as goal

pub returns-in-Err-clause-passed : goal.returns-in-Err-clause-passed
returns-in-Err-clause-passed c = λ table is consistent.
    let memory = c.in-Err.ensures.whole table c.args.file.now consistent.table is (sym c.new.ensures) in
    inr (c.file_number.ensures.number ∙ ap file_number memory)

pub returns-in-Err-clause-refused : goal.returns-in-Err-clause-refused
returns-in-Err-clause-refused c = λ some. elim (c.in-Err.ensures.fault (whole c.args.file.now) (sym c.new.ensures)) [
  | inl memory ↦ inl (inr (c.file_number.ensures.number ∙ ap file_number memory))
  | inr holds ↦ inr (c.in-Err.fault, holds, c.file_number.ensures.number)
]

pub returns-in-Ok-check-clause-right : goal.returns-in-Ok-check-clause-right
returns-in-Ok-check-clause-right c = λ none.
    (c.in-Ok.table, (c.in-Ok.ensures.read (whole c.args.file.now) (sym c.new.ensures)).1, c.in-Ok-check.ensures.right)

pub returns-in-Err-Inconsistent-clause-passed : goal.returns-in-Err-Inconsistent-clause-passed
returns-in-Err-Inconsistent-clause-passed c = λ table is consistent.
    let found = c.in-Ok.ensures.whole table c.args.file.now consistent.table is (sym c.new.ensures) in
    let same = subst (λ (t : ClassTable). IsConsistent t.family t.values) (sym found) consistent in
    let broken = subst (IsFaultOfCheck c.in-Ok.table) c.in-Err-Inconsistent.field-0-is c.in-Err-Inconsistent.ensures.fault in
    absurd (consistent_has_no_break c.in-Ok.table c.in-Err-Inconsistent.broken same broken.breaks)

pub returns-in-Err-Inconsistent-clause-broken : goal.returns-in-Err-Inconsistent-clause-broken
returns-in-Err-Inconsistent-clause-broken c = λ broken. (
  c.in-Ok.table,
  (c.in-Ok.ensures.read (whole c.args.file.now) (sym c.new.ensures)).1,
  c.in-Ok.ensures.table,
  subst (IsFaultOfCheck c.in-Ok.table) c.in-Err-Inconsistent.field-0-is c.in-Err-Inconsistent.ensures.fault,
)
