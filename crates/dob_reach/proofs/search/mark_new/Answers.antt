-- One number more each time, and then all of them.
use Rattle.dob_reach.proofs.Common.{◌++◌, ◌∷◌, [], append_assoc, arith, get_or, take, take_all, take_more, ℕ}
use Rattle.std.proofs.lemmas.List.Elements.{Contains-get_or}
use Rattle.dob_reach.proofs.Marking.{keeps_both}
use Rattle.dob_reach.proofs.search.mark_new.Goals as goal

pub mark_one-requires : goal.mark_one-requires
mark_one-requires c =
    let bits = c.requires _ (Contains-get_or c.args.outcomes.now c.loop-outcome.outcome-index 0 c.loop-outcome-test.true) in
    omega (arith, c.loop-outcome.invariant.keeps.long, bits)

pub loop-outcome-preserved : goal.loop-outcome-preserved
loop-outcome-preserved c =
    let outcomes = c.args.outcomes.now in
    let index : ℕ = c.loop-outcome.outcome-index in
    record {
      keeps = keeps_both c.loop-outcome.invariant.keeps c.in_ok-mark_one.ensures.keeps;
      marked = λ before done are.
          rw (take_more outcomes index 0 c.loop-outcome-test.true, ← append_assoc done (take index outcomes) (get_or outcomes index 0 ∷ []))
          (c.in_ok-mark_one.ensures.marked before (done ++ take index outcomes) (c.loop-outcome.invariant.marked before done are));
    }

pub returns-clause-marked : goal.returns-clause-marked
returns-clause-marked c = λ before done are.
    rw (take_all c.loop-outcome.outcome-index c.args.outcomes.now c.loop-outcome-test.false) at (c.loop-outcome.invariant.marked before done are)
