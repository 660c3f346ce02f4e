-- Node 0 announces.
use Rattle.dob_world.proofs.Common.{◌∙◌, refl, sym, ring_of, Announce}
use Rattle.dob_safra.specs.declared.event.RingEvent.TheVariants as ring
use Rattle.dob_world.proofs.InPlace.{NodeAt, node_there}
use Rattle.dob_world.proofs.Stood.{cuts_same, event_done, moved_here, announceable_here, idle_shown, shown_idle}
use Rattle.dob_world.proofs.world.World.announce.Goals as goal
use Rattle.dob_world.proofs.world.World.announce.Goals.{After-index}

-- node 0 stands at its place
first : (c : After-index) → NodeAt c.args.self.now.nodes.items 0 c.index.result.now
first c = node_there c.requires.standing.places 0 c.index.result.now c.requires.standing.setting.nodes.0 c.index.ensures

pub returns-then-not-is_idle-clause-skipped : goal.returns-then-not-is_idle-clause-skipped
returns-then-not-is_idle-clause-skipped c = λ e.
    let there = first (goal.at.returns-then-not-is_idle-clause-skipped c).After-index in
    record {
      cannot = λ can. let both = sym (c.is_idle.ensures.1 (shown_idle c.requires.standing.places there can.0.0)) ∙ c.if-not-is_idle.true in cc;
      unchanged = record { setting = refl; nodes = refl; lanes = refl; detector = refl; steps = refl; failed = refl };
    }

pub returns-clause-done : goal.returns-clause-done
returns-clause-done c = λ e.
    let stand = c.requires.standing in
    let idle = idle_shown stand.places (first (goal.at.returns-clause-done c).After-index) (c.is_idle.ensures.0 c.if-not-is_idle.false) in
    let may = announceable_here stand (c.may_end.ensures.0 c.if-not-may_end.false) in
    let moved = moved_here stand ring.Announce (ring_of c.announce_end.new.self) c.announce_end.ensures.moved in
    event_done c.args.self.now _ Announce stand c.requires.few refl
    (record { can = ((idle, may), c.if-self.false); happens = (refl, moved); places = stand.places }) c.announce_end.ensures.counted
    (cuts_same stand (ring_of c.announce_end.new.self) moved.posted) (refl, refl)
