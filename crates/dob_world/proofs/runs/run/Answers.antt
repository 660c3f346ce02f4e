-- The opening world is the one after no events, and each event makes a run longer.
use Rattle.dob_world.proofs.Common.{◌<◌, List, Ok, [], ap, arith, inr, refl, subst, sym, take_all, classes_of, state_of, HasRunEvents, IsWorldStart, Setting, setting_by}
use Rattle.dob_world.specs.declared.event.Event.{Event}
use Rattle.dob_world.proofs.Driven.{ran, stepped, ran_more, run_stops}
use Rattle.dob_world.proofs.runs.run.Goals as goal

pub loop-event-init : goal.loop-event-init
loop-event-init c =
    let k : Setting = setting_by c.args.family c.args.nodes c.args.batch c.args.capacity in
    let world = c.in-Ok.world in
    let opened = c.in-Ok.ensures in
    record {
      run = ran k (state_of world) [] world opened.setting (subst (λ (s : Setting). IsWorldStart s (state_of world)) opened.setting opened.opened)
          (refl, opened.standing.2) opened.standing.0 opened.standing.1;
      steps = omega (arith, opened.standing.2);
    }

pub loop-event-preserved : goal.loop-event-preserved
loop-event-preserved c =
    let k : Setting = setting_by c.args.family c.args.nodes c.args.batch c.args.capacity in
    let out = c.in-Ok-step.ensures in
    let step = stepped k _ c.loop-event.world c.step.new.self c.in-Ok-step.field-0 c.loop-event.invariant.run.setting (λ e. out.done (ap Ok e))
    (λ e. out.skipped (ap Ok e)) in
    record {
      run = ran_more k c.args.events.now c.loop-event.event-index _ c.loop-event.world c.step.new.self c.loop-event-test.true c.loop-event.invariant.run
          step out.going.0 out.going.1;
      steps = omega (arith, step.steps, c.loop-event.invariant.steps);
    }

pub returns-clause-run : goal.returns-clause-run
returns-clause-run c =
    subst (λ (done : List Event). HasRunEvents (setting_by c.args.family c.args.nodes c.args.batch c.args.capacity) done c.loop-event.world)
    (take_all c.loop-event.event-index c.args.events.now c.loop-event-test.false) c.loop-event.invariant.run

pub returns-in-Err-step-clause-memory : goal.returns-in-Err-step-clause-memory
returns-in-Err-step-clause-memory c = λ few.
    let run = c.loop-event.invariant.run in
    inr (c.in-Err-step.ensures.memory run.going (subst (λ (k : Setting). classes_of k.family < 65535) (sym run.setting) few))

pub returns-in-Err-step-clause-fault : goal.returns-in-Err-step-clause-fault
returns-in-Err-step-clause-fault c =
    let k : Setting = setting_by c.args.family c.args.nodes c.args.batch c.args.capacity in
    let run = c.loop-event.invariant.run in
    inr (run_stops k c.args.events.now c.loop-event.event-index _ c.loop-event.world c.in-Err-step.fault c.loop-event-test.true run
    (c.in-Err-step.ensures.named run.going).stop)
