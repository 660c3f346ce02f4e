-- Each square has four forms, but those of rows 1 and 4.
use Rattle.dob_rank.proofs.Common.{◌*◌, ◌+◌, ◌≡◌, arith}
use Rattle.dob_rank.specs.Weights.{forms_upto}
use Rattle.dob_rank.proofs.ProfileB.ChickForms.{ones_are}
use Rattle.dob_rank.proofs.chick_forms.forms_upto.Goals as goal
use Rattle.dob_rank.proofs.chick_forms.forms_upto.Goals.{After-from}

counted : (c : After-from) → forms_upto c.args.lions c.args.number + c.from.result ≡ 4 * c.args.number
counted c = rw c.from.ensures
    (ones_are c.args.lions c.args.number c.past-enemy.result c.left_square.result c.requires.lions c.requires.number c.past-enemy.ensures.value
    c.left_square.ensures.value)

pub overflow_sub-result : goal.overflow_sub-result
overflow_sub-result c = omega (arith, counted c)

pub returns-clause-value : goal.returns-clause-value
returns-clause-value c = omega (arith, counted c)

pub returns-clause-bound : goal.returns-clause-bound
returns-clause-bound c = omega (arith, c.requires.number)
