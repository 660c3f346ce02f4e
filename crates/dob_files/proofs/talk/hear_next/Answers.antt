-- The line that was taken is answered, behind what was held.
use Rattle.dob_files.proofs.Common.{Bool, err_from_is_err_and, inr, refl, subst, TakesLine, told_of}
use Rattle.dob_files.proofs.talk.hear_next.Goals as goal

pub returns-then-not-branch-clause-heard : goal.returns-then-not-branch-clause-heard
returns-then-not-branch-clause-heard g c = (
  λ known is.
      (subst (λ (b : Bool). TakesLine known b c.next_line.new.line.items (g.S.Shelf.state c.next_line.new.self).input) c.if-not-branch.true
      (c.in_ok-next_line.ensures.read known is)).0,
  refl,
)

pub returns-clause-heard : goal.returns-clause-heard
returns-clause-heard g c = (
  c.next_line.new.line.items,
  told_of c.in_ok-answer.answer,
  λ known is.
      subst (λ (b : Bool). TakesLine known b c.next_line.new.line.items (g.S.Shelf.state c.next_line.new.self).input) c.if-not-branch.false
      (c.in_ok-next_line.ensures.read known is),
  rw c.deref.ensures.value at c.in_ok-answer.ensures.told,
  c.in_ok-add.ensures.lines,
  c.in_ok-add.ensures.refused,
)

pub returns-in_err-answer-clause-taken : goal.returns-in_err-answer-clause-taken
returns-in_err-answer-clause-taken g c =
    let p = err_from_is_err_and c.from_residual-in_err-answer.result c.from_residual-in_err-answer.ensures.1 in
    rw (p.1, p.2) (inr (λ known is. (
      c.next_line.new.line.items,
      subst (λ (b : Bool). TakesLine known b c.next_line.new.line.items (g.S.Shelf.state c.next_line.new.self).input) c.if-not-branch.false
          (c.in_ok-next_line.ensures.read known is),
    )))
