-- One part more each time, and then all of them.
use Rattle.dob_reach.proofs.Common.{◌++◌, ◌∙◌, AreMarked, List, ap, append_assoc, arith, outcomes_of, subst, sym, take, take_all, ℕ}
use Rattle.dob_reach.proofs.Marking.{keeps_both}
use Rattle.dob_reach.proofs.Stepping.{one_part_more, part_outcomes}
use Rattle.dob_reach.proofs.search.mark_parts.Goals as goal

pub mark_new-requires : goal.mark_new-requires
mark_new-requires c = λ number there.
    let bits = c.requires number (part_outcomes c.args.parts.now c.loop-part.part-index c.part-item.result number c.loop-part-test.true c.part-item.is
    (rw c.deref.ensures.value at there)) in
    omega (arith, c.loop-part.invariant.keeps.long, bits)

pub loop-part-preserved : goal.loop-part-preserved
loop-part-preserved c =
    let parts = c.args.parts.now in
    let first = outcomes_of (take c.loop-part.part-index parts) in
    record {
      keeps = keeps_both c.loop-part.invariant.keeps c.in_ok-mark_new.ensures.keeps;
      marked = λ before done are.
          subst (λ (xs : List ℕ). AreMarked before c.mark_new.new.marks.words.items xs c.mark_new.new.next.items)
          (append_assoc done first c.deref.result.now ∙ ap (λ (xs : List ℕ). done ++ xs)
          (ap (λ (xs : List ℕ). first ++ xs) c.deref.ensures.value
          ∙ sym (one_part_more parts c.loop-part.part-index c.part-item.result c.loop-part-test.true c.part-item.is)))
          (c.in_ok-mark_new.ensures.marked before (done ++ first) (c.loop-part.invariant.marked before done are));
    }

pub returns-clause-marked : goal.returns-clause-marked
returns-clause-marked c = λ before done are.
    rw (take_all c.loop-part.part-index c.args.parts.now c.loop-part-test.false) at (c.loop-part.invariant.marked before done are)
