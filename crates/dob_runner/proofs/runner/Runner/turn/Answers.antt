-- A failure of the work is the turn's and is never `Held`; else the look, the work and the rest make one turn.
use Rattle.dob_runner.proofs.Common.{◌∙◌, ◌≡◌, ap, inl, refl, rules, subst, sym, Node, Running, GoesOn, GoesRound, KeepsRunner, says_no, HasSeen, Runner}
use Rattle.dob_runner.proofs.TurnParts.{told_of}
use Rattle.dob_runner.proofs.Keeping.{runner_trans, turn_failed, failed_still, unheld_on, reason_on, reason_unheld}
use Rattle.dob_runner.proofs.runner.Runner.turn.Goals as goal
use Rattle.dob_runner.proofs.runner.Runner.turn.Goals.{After-look-halt}

-- what holds of the runner that the gate let on holds of the one before
looked : (g : _) (c : After-look-halt g) → KeepsRunner c.args.self.now c.look-halt.new.self × HasSeen c.args.self.now c.look-halt.new.self
looked g c = subst (λ (r : Runner). KeepsRunner r c.look-halt.new.self × HasSeen r c.look-halt.new.self) (c.enter.ensures.on c.if-not-enter.false)
    (c.look-halt.ensures.goes.keeps, c.look-halt.ensures.seen)

pub returns-in_err-did : goal.returns-in_err-did
returns-in_err-did g c =
    let seen = looked g (goal.at.returns-in_err-did g c).After-look-halt in
    let old = c.args.self.now in
    let mid = c.look-halt.new.self in
    let new = c.work_and_tell.new.self in
    let why = c.in_err-did.field-0.0 in
    let is = c.from_residual.ensures.1 in
    let broken = c.in_err-did.ensures.works in
    record {
      turned = turn_failed old mid new c.from_residual.result why is seen.0 broken.failed;
      asked = search rules;
      reason = reason_on (says_no (g.G.Gate.says c.args.gate.now)) new c.from_residual.result why is broken.reason;
      held = unheld_on c.from_residual.result why is (reason_unheld new why broken.reason);
      still = failed_still old mid new c.from_residual.result seen.0 seen.1.still broken.still;
      told = told_of (g.G.Gate.told c.args.gate.now) old mid new new seen.1.same c.work_and_tell.ensures.told refl;
    }

pub returns-clause-turned : goal.returns-clause-turned
returns-clause-turned g c =
    let seen = looked g (goal.at.returns-clause-turned g c).After-look-halt in
    let worked : GoesOn c.look-halt.new.self c.work_and_tell.new.self = c.in_ok-did.ensures.works.goes in
    let ended : GoesRound c.work_and_tell.new.self c.end_turn.new.self = c.end_turn.ensures.goes in
    let goes_on : c.look-halt.result ≡ Running = c.in-Running.is in
    record {
      keeps = runner_trans c.args.self.now c.work_and_tell.new.self c.end_turn.new.self
          (runner_trans c.args.self.now c.look-halt.new.self c.work_and_tell.new.self seen.0 worked.keeps) ended.keeps;
      unfailed = ended.unfailed;
      halt_is = refl;
      looked = c.look-halt.new.self.endpoint.seat;
      same = seen.0.endpoint.seat;
      observed = seen.1.observed;
      first = λ stopped. absurd (stopped (sym c.look-halt.ensures.halt ∙ goes_on));
      before = c.look-halt.new.self;
      before_is = refl;
      seen = seen.1;
      stopped = λ stopped. absurd (stopped (sym c.look-halt.ensures.halt ∙ goes_on));
      went = λ on. record { worked = c.work_and_tell.new.self; did = c.in_ok-did.did; works = c.in_ok-did.ensures.works; ends = c.end_turn.ensures.ends };
    }

pub returns-in_default-clause-turned : goal.returns-in_default-clause-turned
returns-in_default-clause-turned g c =
    let seen = looked g (goal.at.returns-in_default-clause-turned g c).After-look-halt in
    record {
      keeps = seen.0;
      unfailed = c.look-halt.ensures.goes.unfailed;
      halt_is = c.look-halt.ensures.halt;
      looked = c.look-halt.new.self.endpoint.seat;
      same = seen.0.endpoint.seat;
      observed = seen.1.observed;
      first = λ stopped. c.look-halt.ensures.halt;
      before = c.look-halt.new.self;
      before_is = refl;
      seen = seen.1;
      stopped = λ stopped. refl;
      went = λ on. absurd (c.in_default.not-Running (c.look-halt.ensures.halt ∙ on));
    }

pub returns-in_default-clause-told : goal.returns-in_default-clause-told
returns-in_default-clause-told g c =
    inl (ap (λ (n : Node). n.expanded) (looked g (goal.at.returns-in_default-clause-told g c).After-look-halt).1.same.node)

pub returns-clause-told : goal.returns-clause-told
returns-clause-told g c =
    told_of (g.G.Gate.told c.args.gate.now) c.args.self.now c.look-halt.new.self c.work_and_tell.new.self c.end_turn.new.self
    (looked g (goal.at.returns-clause-told g c).After-look-halt).1.same c.work_and_tell.ensures.told c.end_turn.ensures.ends.same.node
