-- What stands before a pair, by its squares.
use Rattle.dob_rank.proofs.Common.{◌*◌, ◌-◌, ◌≤◌, ◌∙◌, ap, arith, mul-le-mul, B, forms_on}
use Rattle.dob_rank.proofs.ProfileB.ChickForms.{IsBeforePair, before_pair_is}
use Rattle.dob_rank.proofs.chick_forms.before_pair.Goals as goal
use Rattle.dob_rank.proofs.chick_forms.before_pair.Goals.{After-forms_upto}

pair : (c : After-forms_upto) → IsBeforePair c.args.lions c.args.number c.places_of-first.result.0 c.places_of-first.result.1 c.forms_upto-seen.result
    c.forms_below-own.result c.forms_upto.result c.pairs_before.result
pair c = before_pair_is c.args.lions c.args.number c.places_of-first.result.0 c.places_of-first.result.1 c.forms_upto-seen.result c.forms_below-own.result
    c.forms_upto.result c.pairs_before.result c.requires.lions c.requires.number c.places_of-first.ensures.first c.places_of-first.ensures.second
    c.forms_upto-seen.ensures.value (c.forms_below-own.ensures.value ∙ ap (forms_on B) c.left_square.ensures.value) c.forms_upto.ensures.value
    c.pairs_before.ensures.value

pub overflow_sub-result : goal.overflow_sub-result
overflow_sub-result c = (pair c).rises

pub returns-clause-value : goal.returns-clause-value
returns-clause-value c = (pair c).value_is

pub returns-clause-bound : goal.returns-clause-bound
returns-clause-bound c =
    let less : c.forms_upto.result - c.forms_upto-seen.result ≤ 40 = omega (arith, c.forms_upto.ensures.bound) in
    let most : c.forms_below-own.result * (c.forms_upto.result - c.forms_upto-seen.result) ≤ 4 * 40 = mul-le-mul c.forms_below-own.ensures.bound less in
    omega (arith, most, c.pairs_before.ensures.bound)
