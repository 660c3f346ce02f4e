-- The node that applies an own item.
use Rattle.dob_world.proofs.Common.{◌*◌, ◌+◌, ◌<◌, Ok, ap, false, refl, subst, sym, true, ℕ, mul-add-lt, vec_len, ring_of, Own}
use Rattle.dob_world.proofs.InPlace.{InWorld, at_lane, same_at, unseen_at, cant_own, some_own}
use Rattle.dob_world.proofs.Stood.{cuts_stay, next_same, event_done}
use Rattle.dob_world.proofs.Made.{owned, own_stops}
use Rattle.dob_world.proofs.Firsts.{ok_is}
use Rattle.dob_world.proofs.world.World.own.Goals as goal
use Rattle.dob_world.proofs.world.World.own.Goals.{After-index_mut-2}

-- the node and the lane of its own items
here : (c : After-index_mut-2) → InWorld c.args.self.now c.args.node c.args.node c.args.node c.lane_place-place.result c.index_mut.result.now
    c.index_mut-2.result.now
here c =
    let low = c.has.ensures.0 c.if-not-has.false in
    at_lane c.requires.standing.places c.args.node c.args.node c.args.node c.lane_place-place.result c.index_mut.result.now c.index_mut-2.result.now low low low
    c.lane_place-place.ensures c.index_mut.ensures.value c.index_mut-2.ensures.value

pub index_mut-requires-2 : goal.index_mut-requires-2
index_mut-requires-2 c =
    let world = c.args.self.now in
    let low = c.has.ensures.0 c.if-not-has.false in
    subst (λ (place : ℕ). place < vec_len world.lanes) (sym c.lane_place-place.ensures)
    (subst (λ (count : ℕ). c.args.node * world.node_count + c.args.node < count) (sym world.lanes_whole)
    (mul-add-lt c.args.node world.node_count c.args.node world.node_count low low))

pub apply_own-requires : goal.apply_own-requires
apply_own-requires c = let is = (here (goal.at.apply_own-requires c).After-index_mut-2).node_of in record { sound = is.sound; going = is.going }

pub returns-in-Ok-clause-done : goal.returns-in-Ok-clause-done
returns-in-Ok-clause-done c = λ e.
    let stand = c.requires.standing in
    let at = here (goal.at.returns-in-Ok-clause-done c).After-index_mut-2 in
    let after = c.apply_own.new.node in
    let step = c.in-Ok.ensures.applied (ap Ok (ok_is c.in-Ok.happened true e)) in
    event_done c.args.self.now _ (Own c.args.node) stand c.requires.few refl
    (owned stand at after c.apply_own.new.lane step c.in-Ok.ensures.sound c.in-Ok.ensures.going) (stand.counted, refl)
    (cuts_stay stand at.node_at after (ring_of c.args.self.now.detector)
    (λ j low differs. next_same c.index_mut.result.now after step.applied.same step.applied.outboxes j) (λ m l low_m low_l. refl)) (refl, refl)

pub returns-in-Ok-clause-skipped : goal.returns-in-Ok-clause-skipped
returns-in-Ok-clause-skipped c = λ e.
    let at = here (goal.at.returns-in-Ok-clause-skipped c).After-index_mut-2 in
    let no = ap Ok (ok_is c.in-Ok.happened false e) in
    let same = same_at at c.apply_own.new.node c.apply_own.new.lane (c.in-Ok.ensures.nothing no) in
    record {
      cannot = λ can. cant_own at (c.in-Ok.ensures.none.0 no) can.1;
      unchanged = record { setting = refl; nodes = same.0; lanes = same.1; detector = refl; steps = refl; failed = refl };
    }

pub returns-in-Err-clause-stopped : goal.returns-in-Err-clause-stopped
returns-in-Err-clause-stopped c =
    let at = here (goal.at.returns-in-Err-clause-stopped c).After-index_mut-2 in
    record {
      setting = refl;
      stop = (
        (at.low_i, some_own at (λ empty. let no = c.in-Err.ensures.none.1 empty in absurd (cc))),
        own_stops c.requires.standing at c.in-Err.cause c.in-Err.ensures.stopped,
      );
      left = unseen_at at c.apply_own.new.node c.apply_own.new.lane c.in-Err.ensures.unchanged;
      same = (refl, refl);
    }
