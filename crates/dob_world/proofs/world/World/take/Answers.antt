-- The node that takes a batch.
use Rattle.dob_world.proofs.Common.{Err, Ok, ap, refl, ring_of, Take}
use Rattle.dob_safra.specs.declared.event.RingEvent.TheVariants as ring
use Rattle.dob_world.proofs.InPlace.{InWorld, at_lane, same_at, cant_take, some_waits}
use Rattle.dob_world.proofs.Stood.{cuts_stay, next_same, event_done, can_count, moved_here, batch_waits}
use Rattle.dob_world.proofs.Made.{received, take_stops}
use Rattle.dob_world.proofs.world.World.take.Goals as goal
use Rattle.dob_world.proofs.world.World.take.Goals.{After-index_mut-2}

-- the node and the lane that it names
here : (c : After-index_mut-2) → InWorld c.args.self.now c.args.from c.args.to c.args.to c.in-Some.place c.index_mut.result.now c.index_mut-2.result.now
here c =
    let two = c.in-Some.ensures.two in
    at_lane c.requires.standing.places c.args.from c.args.to c.args.to c.in-Some.place c.index_mut.result.now c.index_mut-2.result.now two.0 two.1 two.1
    c.in-Some.ensures.place c.index_mut.ensures.value c.index_mut-2.ensures.value

pub receive-requires : goal.receive-requires
receive-requires c =
    let at = here (goal.at.receive-requires c).After-index_mut-2 in
    record {
      sound = at.node_of.sound;
      going = at.node_of.going;
      batches = rw (at.node_of.of.0, at.node_of.of.1, at.node_of.of.2) at.lane_of.batches;
    }

pub count_take-requires : goal.count_take-requires
count_take-requires c =
    let stand = c.requires.standing in
    let at = here (goal.at.count_take-requires c).After-index_mut-2 in
    record {
      ready = can_count stand c.args.from c.args.to at.low_i at.low_j;
      waiting = batch_waits stand c.args.from c.args.to at.low_i at.low_j
          (some_waits at (λ empty. let no = c.in-Ok-true.ensures.none.1 empty in let yes = c.in-Ok-true.field-0-test in absurd (cc)));
    }

pub returns-in-Ok-true-clause-done : goal.returns-in-Ok-true-clause-done
returns-in-Ok-true-clause-done c = λ e.
    let stand = c.requires.standing in
    let at = here (goal.at.returns-in-Ok-true-clause-done c).After-index_mut-2 in
    let after = c.receive.new.node in
    let step = c.in-Ok-true.ensures.received (ap Ok c.in-Ok-true.field-0-test) in
    let now = ring_of c.count_take.new.self in
    let moved = moved_here stand (ring.Take c.args.from c.args.to) now c.count_take.ensures.moved in
    event_done c.args.self.now _ (Take c.args.from c.args.to) stand c.requires.few refl
    (received stand at c.in-Some.ensures.two.2 after c.receive.new.lane step c.in-Ok-true.ensures.sound c.in-Ok-true.ensures.going now moved)
    c.count_take.ensures.counted
    (cuts_stay stand at.node_at after now (λ l low differs. next_same c.index_mut.result.now after step.taken.same step.taken.outboxes l) moved.posted)
    (refl, refl)

pub returns-in-Ok-false-clause-skipped : goal.returns-in-Ok-false-clause-skipped
returns-in-Ok-false-clause-skipped c = λ e.
    let at = here (goal.at.returns-in-Ok-false-clause-skipped c).After-index_mut-2 in
    let none = ap Ok c.in-Ok-false.field-0-test in
    let same = same_at at c.receive.new.node c.receive.new.lane (c.in-Ok-false.ensures.nothing none) in
    record {
      cannot = λ can. cant_take at (c.in-Ok-false.ensures.none.0 none) can.3;
      unchanged = record { setting = refl; nodes = same.0; lanes = same.1; detector = refl; steps = refl; failed = refl };
    }

pub returns-in-Err-clause-stopped : goal.returns-in-Err-clause-stopped
returns-in-Err-clause-stopped c =
    let at = here (goal.at.returns-in-Err-clause-stopped c).After-index_mut-2 in
    let differs = c.in-Some.ensures.two.2 in
    let why = take_stops c.requires.standing at differs c.receive.new.node c.receive.new.lane c.in-Err.ensures.sound c.in-Err.cause
    (λ memory. c.in-Err.ensures.unchanged (ap Err memory)) c.in-Err.ensures.front in
    record {
      setting = refl;
      stop = (
        (at.low_i, at.low_j, differs, some_waits at (λ empty. let no = c.in-Err.ensures.none.1 empty in absurd (cc))),
        why.0,
      );
      left = why.1;
      same = (refl, refl);
    }
