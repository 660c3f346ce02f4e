-- The mover's squares are gone over from the first on.
use Rattle.dob_moves.proofs.Common.{◌∙◌, ap, arith, length, refl, sym}
use Rattle.dob_moves.proofs.MoveCounts.{count_start, count_small, count_next, count_end}
use Rattle.dob_moves.proofs.Listed.{from_kind}
use Rattle.dob_moves.proofs.count.count_steps.Goals as goal

pub loop-from-init : goal.loop-from-init
loop-from-init c = λ setup are. rw c.into_iter-from-iterator.ensures.into_iter_gives (count_start setup _ (c.own-from-items.ensures setup are))

pub overflow_add-count : goal.overflow_add-count
overflow_add-count c =
    let small = count_small (c.loop-from.invariant c.requires.0 c.requires.1) c.in-Some.ensures.steps c.count_steps_by-count.ensures.few in
    record { fits = omega (arith, small) }

pub loop-from-preserved : goal.loop-from-preserved
loop-from-preserved c = λ setup are.
    count_next (c.loop-from.invariant setup are) c.in-Some.ensures.steps refl
    (λ own. c.count_steps_by-count.ensures.number setup (c.ends-ends.ensures setup are)
    ∙ sym (ap length (from_kind setup c.own_kind.result c.in-Some.from (c.own_kind.ensures setup are own))))
    c.count_steps_by-count.ensures.few

pub returns-clause-number : goal.returns-clause-number
returns-clause-number c = λ setup are. (count_end (c.loop-from.invariant setup are) c.in-None.ensures.steps.0).0

pub returns-clause-few : goal.returns-clause-few
returns-clause-few c = (count_end (c.loop-from.invariant c.requires.0 c.requires.1) c.in-None.ensures.steps.0).1
