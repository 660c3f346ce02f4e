-- The node that passes the token.
use Rattle.dob_world.proofs.Common.{◌∙◌, ◌≡◌, refl, subst, sym, ℕ, Moved, WorldMayEnd, ring_of, setting_of, state_of, Pass}
use Rattle.dob_safra.specs.declared.event.RingEvent.TheVariants as ring
use Rattle.dob_world.proofs.InPlace.{NodeAt, node_there}
use Rattle.dob_world.proofs.Stood.{cuts_same, event_done, moved_here, announceable_there, idle_shown, ring_lawful, shown_idle}
use Rattle.dob_world.proofs.world.World.pass.Goals as goal
use Rattle.dob_world.proofs.world.World.pass.Goals.{else-node-eq0-via-then-node-eq0+else-may_end, else-node-eq0-via-else-node-eq0, After-index}

-- the node stands at its place
here : (c : After-index) → NodeAt c.args.self.now.nodes.items c.args.node c.index.result.now
here c = node_there c.requires.standing.places c.args.node c.index.result.now (c.has.ensures.0 c.if-not-has.false) c.index.ensures

pub may_end-requires-clause-lawful : goal.may_end-requires-clause-lawful
may_end-requires-clause-lawful c = ring_lawful c.requires.standing

pub pass_token-requires-clause-lawful : goal.pass_token-requires-clause-lawful
pass_token-requires-clause-lawful c = ring_lawful c.requires.standing

pub returns-then-not-is_idle-clause-skipped : goal.returns-then-not-is_idle-clause-skipped
returns-then-not-is_idle-clause-skipped c = λ e.
    let there = here (goal.at.returns-then-not-is_idle-clause-skipped c).After-index in
    record {
      cannot = λ can. let both = sym (c.is_idle.ensures.1 (shown_idle c.requires.standing.places there can.2)) ∙ c.if-not-is_idle.true in cc;
      unchanged = record { setting = refl; nodes = refl; lanes = refl; detector = refl; steps = refl; failed = refl };
    }

pub returns-clause-done : goal.returns-clause-done
returns-clause-done c = λ e.
    let k = setting_of c.args.self.now in
    let detector = c.args.self.now.detector in
    let stand = c.requires.standing in
    let idle = idle_shown stand.places (here (goal.at.returns-clause-done c).After-index) (c.is_idle.ensures.0 c.if-not-is_idle.false) in
    let at : detector.token.at ≡ c.args.node = sym c.if-node-self.false in
    let not_yet : c.args.node ≡ 0 → WorldMayEnd k (state_of c.args.self.now) → ⊥ = λ first may. elim c.else-node-eq0.branch [
      | else-node-eq0-via-then-node-eq0+else-may_end w ↦
          let both = sym (w.may_end.ensures.1 (announceable_there stand may.1)) ∙ w.if-may_end.false in cc
      | else-node-eq0-via-else-node-eq0 w ↦ w.if-node-eq0.false first
    ] in
    let moved = subst (λ (i : ℕ). Moved k.n (ring_of detector) (ring.Pass i) (ring_of c.pass_token.new.self)) at
    (moved_here stand (ring.Pass detector.token.at) (ring_of c.pass_token.new.self) c.pass_token.ensures.moved) in
    event_done c.args.self.now _ (Pass c.args.node) stand c.requires.few refl
    (record { can = (c.has.ensures.0 c.if-not-has.false, at, idle, c.if-self.false, not_yet); happens = (refl, moved); places = stand.places })
    c.pass_token.ensures.counted (cuts_same stand (ring_of c.pass_token.new.self) moved.posted) (refl, refl)
