-- What the first runner knows is what all know, or none is known.
use Rattle.dob_run.proofs.Common.{◌∙◌, refl, subst, sym, Halt, AllKnow}
use Rattle.dob_run.proofs.CrewStopped.{none_apart, or_failed, late_failure}
use Rattle.dob_run.proofs.build_end.failure_known.Goals as goal

pub returns-then-not-all_know : goal.returns-then-not-all_know
returns-then-not-all_know c =
    none_apart c.args.runners.now c.in-Some.first.now.endpoint.seat.stand.halt c.in-Some.first.now (sym c.in-Some.ensures.value) refl
    (λ know. let both = sym (c.all_know.ensures.1 know) ∙ c.if-not-all_know.true in cc)

pub returns-in-Err : goal.returns-in-Err
returns-in-Err c =
    late_failure c.args.runners.now c.in-Err.fault
    (subst (λ (h : Halt). AllKnow h c.args.runners.now) c.in-Ended.is (c.all_know.ensures.0 c.if-not-all_know.false)) c.in-Err.ensures.first

pub returns-in-Failed : goal.returns-in-Failed
returns-in-Failed c =
    or_failed c.args.runners.now c.in-Some.first.now.endpoint.seat.stand.halt c.in-Some.first.now (sym c.in-Some.ensures.value) refl c.in-Failed.node
    c.in-Failed.is c.failure_of.result c.failure_of.ensures
