-- One pair more each time, and then all of them.
use Rattle.dob_zugzwang.proofs.Common.{List, subst, sym, take_all, take_more, IsDeepest, Zugzwang}
use Rattle.dob_zugzwang.proofs.counts.deepest.Goals as goal

pub loop-pair-preserved : goal.loop-pair-preserved
loop-pair-preserved c =
    subst (λ (pairs : List Zugzwang). IsDeepest pairs c.with_pair-best.result) (sym (take_more c.args.pairs.now c.loop-pair.pair-index _ c.loop-pair-test.true))
    (c.with_pair-best.ensures _ c.loop-pair.invariant)

pub returns : goal.returns
returns c =
    subst (λ (pairs : List Zugzwang). IsDeepest pairs c.loop-pair.best) (take_all c.loop-pair.pair-index c.args.pairs.now c.loop-pair-test.false) c.loop-pair.invariant
