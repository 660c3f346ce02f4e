-- All that the runs of one hand have is the sum over all lions, and the two sums are next to each other at last.
use Rattle.dob_rank.proofs.Common.{◌<◌, arith, subst, B, lions_before}
use Rattle.dob_rank.proofs.ProfileB.Unranks.{hand_size_is, next_above}
use Rattle.dob_rank.proofs.chick_forms.lions_at.Goals as goal

pub loop-high-init : goal.loop-high-init
loop-high-init c = record {
  apart = omega arith;
  within = omega arith;
  low_is = omega arith;
  high_is = subst (λ n. c.args.number < n) (hand_size_is c.args.chicks) c.requires.number;
}

pub returns-clause-high : goal.returns-clause-high
returns-clause-high c =
    next_above (lions_before B c.args.chicks) c.loop-high.low c.loop-high.high c.args.number c.loop-high.invariant.apart c.loop-high-test.false
    c.loop-high.invariant.high_is
