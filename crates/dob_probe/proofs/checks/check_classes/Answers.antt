-- Each class follows as those before it do, or it is the first that doesn't.
use Rattle.dob_probe.proofs.Common.{arith, inl, inr, cases_eq}
use Rattle.dob_probe.proofs.checks.check_classes.Goals as goal

pub loop-class-init : goal.loop-class-init
loop-class-init c = λ other low below. absurd (omega arith)

pub loop-class-preserved : goal.loop-class-preserved
loop-class-preserved c = λ other low below. elim (cases_eq c.loop-class.class other) [
  | inl same ↦ rw same at (c.class_follows.ensures.follows c.if-not-class_follows.false)
  | inr apart ↦ c.loop-class.invariant other low (omega arith)
]

pub returns-then-not-class_follows : goal.returns-then-not-class_follows
returns-then-not-class_follows c = record {
  low = c.loop-class.auto.class;
  high = c.loop-class-test.true;
  breaks = c.class_follows.ensures.breaks c.if-not-class_follows.true;
  before = c.loop-class.invariant;
}

pub returns : goal.returns
returns c = λ other low below. c.loop-class.invariant other low (omega (arith, below, c.loop-class-test.false))
