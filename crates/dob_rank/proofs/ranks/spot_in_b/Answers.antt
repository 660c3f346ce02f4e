-- The lions found are those in whose run the number is.
use Rattle.dob_rank.proofs.Common.{◌%◌, ◌*◌, ◌+◌, ◌-◌, ◌/◌, ◌<◌, arith, refl, slice_index, subst, mod_below, B, forms_in}
use Rattle.dob_rank.proofs.ProfileB.Unranks.{IsBeforeRun, before_run, spot_for}
use Rattle.dob_rank.proofs.ranks.spot_in_b.Goals as goal
use Rattle.dob_rank.proofs.ranks.spot_in_b.Goals.{After-before_lions}

before_in : (c : After-before_lions) → IsBeforeRun c.args.number c.others_ways-others.result
    (c.args.number / c.others_ways-others.result / c.hand_size-in_hand.result * c.hand_size-in_hand.result + c.before_lions.result)
    (forms_in B (slice_index c.args.on_board.now 0) c.lions_at-lions.result)
before_in c =
    before_run (slice_index c.args.on_board.now 0) c.lions_at-lions.result c.args.number c.others_ways-others.result c.hand_size-in_hand.result
    c.before_lions.result c.others_ways-others.ensures.positive c.hand_size-in_hand.ensures.positive
    c.hand_size-in_hand.ensures.value c.lions_at-lions.ensures.low c.lions_at-lions.ensures.high c.before_lions.ensures.value

pub lions_at-lions-requires-clause-number : goal.lions_at-lions-requires-clause-number
lions_at-lions-requires-clause-number c =
    subst (λ n. c.args.number / c.others_ways-others.result % c.hand_size-in_hand.result < n) c.hand_size-in_hand.ensures.value
    (mod_below (c.args.number / c.others_ways-others.result) c.hand_size-in_hand.result c.hand_size-in_hand.ensures.positive)

pub place_of_number-requires-clause-number : goal.place_of_number-requires-clause-number
place_of_number-requires-clause-number c =
    let before = before_in (goal.at.place_of_number-requires-clause-number c).After-before_lions in
    subst (λ n. c.args.number - (c.args.number / c.others_ways-others.result / c.hand_size-in_hand.result * c.hand_size-in_hand.result + c.before_lions.result)
    * c.others_ways-others.result < forms_in B (slice_index c.args.on_board.now 0) c.lions_at-lions.result * n) c.others_ways-others.ensures.value before.left

pub overflow_mul-before-2 : goal.overflow_mul-before-2
overflow_mul-before-2 c = let low = (before_in (goal.at.overflow_mul-before-2 c).After-before_lions).low in omega (arith, low)

pub overflow_sub-number : goal.overflow_sub-number
overflow_sub-number c = (before_in (goal.at.overflow_sub-number c).After-before_lions).low

pub returns : goal.returns
returns c =
    let before = before_in (goal.at.returns c).After-before_lions in
    spot_for c.args.on_board.now c.lions_at-lions.result c.args.number c.others_ways-others.result c.hand_size-in_hand.result c.before_lions.result
    c.place_of_number.result _ c.lions_at-lions.ensures.lions c.others_ways-others.ensures.value c.others_ways-others.ensures.positive
    c.hand_size-in_hand.ensures.value c.hand_size-in_hand.ensures.positive c.before_lions.ensures.value before.low c.place_of_number.ensures refl
