-- The first square and the second one are those of the pair.
use Rattle.dob_rank.proofs.Common.{◌*◌, ◌+◌, ◌-◌, ◌≤◌, ◌∙◌, ap, arith, mul-le-mul, B, forms_on}
use Rattle.dob_rank.proofs.ProfileB.ChickForms.{IsInPair, next_first, none_left, one_more_left, pair_found}
use Rattle.dob_rank.proofs.ProfileB.PairSums.{pair_number}
use Rattle.dob_rank.proofs.chick_forms.pair_at.Goals as goal
use Rattle.dob_rank.proofs.chick_forms.pair_at.Goals.{After-square_at-second}

found : (c : After-square_at-second) → IsInPair c.args.lions c.args.number (pair_number c.loop-first.first c.square_at-second.result)
found c = pair_found c.args.lions c.args.number c.loop-first.first c.square_at-second.result c.loop-first.seen c.loop-first.before c.forms_upto-all.result
    c.forms_below-own.result c.requires.lions c.loop-first-test.true c.square_at-second.ensures.square c.if-number-next.true c.loop-first.invariant.low
    c.loop-first.invariant.counted c.loop-first.invariant.sum (c.forms_below-own.ensures.value ∙ ap (forms_on B) c.left_square.ensures.value)
    c.square_at-second.ensures.low c.square_at-second.ensures.high

pub returns-then-number-next-clause-low : goal.returns-then-number-next-clause-low
returns-then-number-next-clause-low c = (found c).low

pub returns-then-number-next-clause-high : goal.returns-then-number-next-clause-high
returns-then-number-next-clause-high c = (found c).high

pub loop-first-preserved : goal.loop-first-preserved
loop-first-preserved c =
    let own = c.forms_below-own.ensures.value ∙ ap (forms_on B) c.left_square.ensures.value in
    let upto = one_more_left c.args.lions c.loop-first.first c.loop-first.seen c.forms_below-own.result c.loop-first.invariant.counted own in
    let less : c.forms_upto-all.result - (c.loop-first.seen + c.forms_below-own.result) ≤ 40 = omega (arith, c.forms_upto-all.ensures.bound) in
    let most : c.forms_below-own.result * (c.forms_upto-all.result - (c.loop-first.seen + c.forms_below-own.result)) ≤ 4 * 40
    = mul-le-mul c.forms_below-own.ensures.bound less in
    record {
      counted = upto;
      sum = next_first c.args.lions c.loop-first.first c.loop-first.before c.forms_below-own.result c.forms_upto-all.result _ c.loop-first.invariant.sum own
          c.forms_upto-all.ensures.value upto;
      low = omega (arith, c.if-number-next.false);
      few = omega (arith, c.loop-first.invariant.few, c.forms_below-own.ensures.bound);
      few_pairs = omega (arith, c.loop-first.invariant.few_pairs, most);
    }

pub returns-clause-high : goal.returns-clause-high
returns-clause-high c = absurd (none_left c.args.lions c.args.number c.loop-first.first c.loop-first.before c.requires.number c.loop-first-test.false
    c.loop-first.auto.first-end c.loop-first.invariant.sum c.loop-first.invariant.low)
