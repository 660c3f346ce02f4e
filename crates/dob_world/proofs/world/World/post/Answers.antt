-- The node that posts.
use Rattle.dob_world.proofs.Common.{Ok, ap, arith, inl, inr, refl, Cause, Stopped, ring_of, Post}
use Rattle.dob_safra.specs.declared.event.RingEvent.TheVariants as ring
use Rattle.dob_world.proofs.InPlace.{InWorld, at_lane, same_at, unseen_at, cant_post, can_post}
use Rattle.dob_world.proofs.Stood.{cuts_posted, few_cut, event_done, can_count, moved_here, sender_black}
use Rattle.dob_world.proofs.Made.{posted}
use Rattle.dob_world.proofs.world.World.post.Goals as goal
use Rattle.dob_world.proofs.world.World.post.Goals.{After-index_mut-2}

-- the node and the lane that it names
here : (c : After-index_mut-2) → InWorld c.args.self.now c.args.from c.args.to c.args.from c.in-Some.place c.index_mut.result.now c.index_mut-2.result.now
here c =
    let two = c.in-Some.ensures.two in
    at_lane c.requires.standing.places c.args.from c.args.to c.args.from c.in-Some.place c.index_mut.result.now c.index_mut-2.result.now two.0 two.1 two.0
    c.in-Some.ensures.place c.index_mut.ensures.value c.index_mut-2.ensures.value

pub post-requires : goal.post-requires
post-requires c = let is = (here (goal.at.post-requires c).After-index_mut-2).node_of in
    record { sound = is.sound; going = is.going; to = omega (arith, is.of.2, c.in-Some.ensures.two.1) }

pub count_post-requires : goal.count_post-requires
count_post-requires c =
    let stand = c.requires.standing in
    let two = c.in-Some.ensures.two in
    let at = here (goal.at.count_post-requires c).After-index_mut-2 in
    let some = c.in-Ok-true.ensures.some (ap Ok c.in-Ok-true.field-0-test) in
    record {
      ready = can_count stand c.args.from c.args.to two.0 two.1;
      black = sender_black stand c.args.from c.args.to two.0 two.1 two.2 (can_post at c.args.to some).0;
      few = omega (arith, stand.few c.args.from c.args.to two.0 two.1, c.requires.few);
    }

pub returns-in-Ok-true-clause-done : goal.returns-in-Ok-true-clause-done
returns-in-Ok-true-clause-done c = λ e.
    let stand = c.requires.standing in
    let at = here (goal.at.returns-in-Ok-true-clause-done c).After-index_mut-2 in
    let differs = c.in-Some.ensures.two.2 in
    let done = ap Ok c.in-Ok-true.field-0-test in
    let step = c.in-Ok-true.ensures.posted done in
    let now = ring_of c.count_post.new.self in
    let moved = moved_here stand (ring.Post c.args.from c.args.to) now c.count_post.ensures.moved in
    event_done c.args.self.now _ (Post c.args.from c.args.to) stand c.requires.few refl
    (posted stand at c.post.new.node c.post.new.lane step differs (can_post at c.args.to (c.in-Ok-true.ensures.some done)) c.in-Ok-true.ensures.sound
    c.in-Ok-true.ensures.going now moved) c.count_post.ensures.counted
    (cuts_posted stand at.node_at c.post.new.node now c.args.to at.low_i at.low_j differs step.cut.cut.next step.cut.others moved.posted) (refl, refl)

pub returns-in-Ok-false-clause-skipped : goal.returns-in-Ok-false-clause-skipped
returns-in-Ok-false-clause-skipped c = λ e.
    let at = here (goal.at.returns-in-Ok-false-clause-skipped c).After-index_mut-2 in
    let none = ap Ok c.in-Ok-false.field-0-test in
    let same = same_at at c.post.new.node c.post.new.lane (c.in-Ok-false.ensures.nothing none) in
    record {
      cannot = λ can. cant_post at c.args.to (c.in-Ok-false.ensures.none none) can.3 can.4;
      unchanged = record { setting = refl; nodes = same.0; lanes = same.1; detector = refl; steps = refl; failed = refl };
    }

pub returns-in-Err-clause-stopped : goal.returns-in-Err-clause-stopped
returns-in-Err-clause-stopped c =
    let stand = c.requires.standing in
    let at = here (goal.at.returns-in-Err-clause-stopped c).After-index_mut-2 in
    let differs = c.in-Some.ensures.two.2 in
    let can = can_post at c.args.to c.in-Err.ensures.moment in
    record {
      setting = refl;
      stop = (
        (at.low_i, at.low_j, differs, can.0, can.1),
        elim c.in-Err.ensures.stopped [
          | inl counts ↦ absurd (few_cut stand at.node_at c.args.to at.low_i at.low_j differs c.requires.few counts.1)
          | inr memory ↦ ap (λ (why : Cause). Stopped c.args.from why) memory
        ],
      );
      left = unseen_at at c.post.new.node c.post.new.lane c.in-Err.ensures.unchanged;
      same = (refl, refl);
    }
