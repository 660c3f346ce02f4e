-- The node that expands.
use Rattle.dob_world.proofs.Common.{◌∙◌, Ok, ap, false, refl, sym, true, Cause, Stopped, setting_of, Expand}
use Rattle.std.proofs.Common.{slice_set}
use Rattle.dob_world.proofs.InPlace.{NodeAt, set_same, node_there, node_unseen}
use Rattle.dob_world.proofs.Stood.{event_done, expanded, cant_expand, left_to_expand, cuts_expanded}
use Rattle.dob_world.proofs.Firsts.{ok_is}
use Rattle.dob_world.proofs.world.World.expand.Goals as goal
use Rattle.dob_world.proofs.world.World.expand.Goals.{After-index_mut}

-- the node stands at its place
here : (c : After-index_mut) → NodeAt c.args.self.now.nodes.items c.args.node c.index_mut.result.now
here c = node_there c.requires.standing.places c.args.node c.index_mut.result.now (c.has.ensures.0 c.if-not-has.false) c.index_mut.ensures.value

pub expand-requires : goal.expand-requires
expand-requires c =
    let is = c.requires.standing.places.node c.args.node c.index_mut.result.now (here (goal.at.expand-requires c).After-index_mut).is in
    record { family = sym is.of.0; sound = is.sound; going = is.going }

pub returns-in-Ok-clause-done : goal.returns-in-Ok-clause-done
returns-in-Ok-clause-done c = λ e.
    let stand = c.requires.standing in
    let there = here (goal.at.returns-in-Ok-clause-done c).After-index_mut in
    let step = c.in-Ok.ensures.step.expanded (ap Ok (ok_is c.in-Ok.happened true e)) in
    let keeps = c.in-Ok.ensures.keeps in
    let low = c.has.ensures.0 c.if-not-has.false in
    event_done c.args.self.now _ (Expand c.args.node) stand c.requires.few refl (expanded stand there low c.expand.new.self step keeps.sound keeps.going)
    (stand.counted, refl) (cuts_expanded stand there low c.expand.new.self step) (refl, refl)

pub returns-in-Ok-clause-skipped : goal.returns-in-Ok-clause-skipped
returns-in-Ok-clause-skipped c = λ e.
    let nodes = c.args.self.now.nodes.items in
    let there = here (goal.at.returns-in-Ok-clause-skipped c).After-index_mut in
    let no = ap Ok (ok_is c.in-Ok.happened false e) in
    let same = ap (λ x. slice_set nodes c.args.node x) (c.in-Ok.ensures.step.nothing no) ∙ set_same nodes c.args.node c.index_mut.result.now there.is in
    record {
      cannot = λ can. cant_expand c.requires.standing there (c.in-Ok.ensures.step.done.0 no) can.1;
      unchanged = record { setting = refl; nodes = same; lanes = refl; detector = refl; steps = refl; failed = refl };
    }

pub returns-in-Err-clause-stopped : goal.returns-in-Err-clause-stopped
returns-in-Err-clause-stopped c =
    let there = here (goal.at.returns-in-Err-clause-stopped c).After-index_mut in
    record {
      setting = refl;
      stop = (
        (
          c.has.ensures.0 c.if-not-has.false,
          left_to_expand c.requires.standing there (λ all. let no = c.in-Err.ensures.step.done.1 all in absurd (cc)),
        ),
        ap (λ (why : Cause). Stopped c.args.node why) c.in-Err.ensures.step.memory,
      );
      left = node_unseen (setting_of c.args.self.now) c.args.self.now.lanes.items there c.expand.new.self c.in-Err.ensures.step.unchanged;
      same = (refl, refl);
    }
