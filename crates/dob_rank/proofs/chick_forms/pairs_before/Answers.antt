-- The sum over pairs by what is seen.
use Rattle.dob_rank.proofs.Common.{◌*◌, ◌≤◌, arith, mul-le-mul}
use Rattle.dob_rank.proofs.ProfileB.ChickForms.{ArePairs, pairs_are}
use Rattle.dob_rank.proofs.chick_forms.pairs_before.Goals as goal
use Rattle.dob_rank.proofs.chick_forms.pairs_before.Goals.{After-forms_upto-all}

pairs : (c : After-forms_upto-all) → ArePairs c.args.lions c.args.number c.forms_upto-seen.result c.forms_upto-all.result
pairs c = pairs_are c.args.lions c.args.number c.forms_upto-seen.result c.forms_upto-all.result c.requires.number c.forms_upto-seen.ensures.value
    c.forms_upto-all.ensures.value

pub overflow_sub-result : goal.overflow_sub-result
overflow_sub-result c = (pairs c).no_less

pub overflow_sub-result-2 : goal.overflow_sub-result-2
overflow_sub-result-2 c = (pairs c).no_more

pub returns-clause-value : goal.returns-clause-value
returns-clause-value c = (pairs c).value_is

pub returns-clause-bound : goal.returns-clause-bound
returns-clause-bound c =
    let most : c.forms_upto-seen.result * c.forms_upto-all.result ≤ 40 * 40 = mul-le-mul c.forms_upto-seen.ensures.bound c.forms_upto-all.ensures.bound in
    omega (arith, most)
