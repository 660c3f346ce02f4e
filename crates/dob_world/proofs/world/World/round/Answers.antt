-- One event more is made, or skipped.
use Rattle.dob_world.proofs.Common.{◌<◌, ◌∙◌, ◌≡◌, Ok, ap, arith, refl, subst, sym, ℕ, classes_of, IsStopped, setting_of, Setting, Event}
use Rattle.dob_world.proofs.Driven.{Stepped, stepped, one_more, round_done, round_stops}
use Rattle.dob_world.proofs.world.World.round.Goals as goal

pub loop-place-preserved : goal.loop-place-preserved
loop-place-preserved c =
    let out = c.in-Ok.ensures in
    let k = setting_of c.args.self.now in
    let way = c.loop-place.invariant.way in
    let step = stepped k c.event_at.result c.loop-place.self c.step.new.self c.in-Ok.field-0 way.setting (λ e. out.done (ap Ok e))
    (λ e. out.skipped (ap Ok e)) in
    record {
      way = one_more c.args.self.now c.loop-place.self c.step.new.self c.loop-place.place way
          (subst (λ (e : Event). Stepped k e c.loop-place.self c.step.new.self) c.event_at.ensures step) out.going.1 out.going.0;
      before = refl;
      nodes = refl;
    }

pub returns-clause-made : goal.returns-clause-made
returns-clause-made c =
    let whole : c.loop-place.place ≡ c.round_length-place-end.result = omega (arith, c.loop-place-test.false, c.loop-place.auto.place-end) in
    round_done c.args.self.now c.loop-place.self c.loop-place.place c.loop-place.invariant.way (whole ∙ c.round_length-place-end.ensures)

pub returns-in-Err-clause-memory : goal.returns-in-Err-clause-memory
returns-in-Err-clause-memory c = λ few.
    let way = c.loop-place.invariant.way in
    c.in-Err.ensures.memory way.going (subst (λ (k : Setting). classes_of k.family < 65535) (sym way.setting) few)

pub returns-in-Err-clause-stopped : goal.returns-in-Err-clause-stopped
returns-in-Err-clause-stopped c =
    let mid = c.loop-place.self in
    let way = c.loop-place.invariant.way in
    let event = c.event_at.ensures in
    let low = subst (λ (k : ℕ). c.loop-place.place < k) c.round_length-place-end.ensures c.loop-place-test.true in
    round_stops c.args.self.now mid c.step.new.self c.loop-place.place c.in-Err.fault way low
    (subst (λ (e : Event). IsStopped e c.in-Err.fault mid c.step.new.self) event (c.in-Err.ensures.named way.going)) c.in-Err.ensures.stopped.1
