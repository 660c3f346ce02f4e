-- Taking, expanding, applying and sending make one step of the runner, which fails where one of the four fails.
use Rattle.dob_runner.proofs.Common.{◌∙◌, refl, sym, GoesOn, Works}
use Rattle.dob_runner.proofs.Keeping.{runner_same, goes_trans, broken_on}
use Rattle.dob_runner.proofs.TurnParts.{adds_one}
use Rattle.dob_runner.proofs.runner.Runner.work.Goals as goal
use Rattle.dob_runner.proofs.runner.Runner.work.Goals.{After-exchange_levels-limit, In_ok-expanded, In_ok-applied}

pub returns-in_err-took : goal.returns-in_err-took
returns-in_err-took g c = broken_on Works c.args.self.now c.args.self.now c.take_one.new.self c.from_residual.result c.in_err-took.field-0.0 c.from_residual.ensures.1
    (runner_same c.args.self.now) refl c.in_err-took.ensures.step

-- until the level that it may expand is known
heard : (g : _) (c : After-exchange_levels-limit g) → GoesOn c.args.self.now c.exchange_levels-limit.new.self
heard g c = goes_trans c.args.self.now c.take_one.new.self c.exchange_levels-limit.new.self c.in_ok-took.ensures.step.goes c.exchange_levels-limit.ensures.goes

pub expand_all-requires-clause-family : goal.expand_all-requires-clause-family
expand_all-requires-clause-family g c =
    let went = heard g (goal.at.expand_all-requires-clause-family g c).After-exchange_levels-limit in
    c.requires.family ∙ sym went.keeps.family

pub returns-in_err-expanded : goal.returns-in_err-expanded
returns-in_err-expanded g c =
    let went = heard g (goal.at.returns-in_err-expanded g c).After-exchange_levels-limit in
    broken_on Works c.args.self.now c.exchange_levels-limit.new.self c.expand_all.new.self c.from_residual-in_err-expanded.result c.in_err-expanded.field-0.0
    c.from_residual-in_err-expanded.ensures.1 went.keeps went.still c.in_err-expanded.ensures

pub sends_small-small-requires-clause-was : goal.sends_small-small-requires-clause-was
sends_small-small-requires-clause-was g c = (c.take_one.new.self.node, c.level-level.ensures)

expanded : (g : _) (c : In_ok-expanded g) → GoesOn c.args.self.now c.expand_all.new.self
expanded g c = goes_trans c.args.self.now c.exchange_levels-limit.new.self c.expand_all.new.self
    (goes_trans c.args.self.now c.take_one.new.self c.exchange_levels-limit.new.self c.in_ok-took.ensures.step.goes c.exchange_levels-limit.ensures.goes) c.in_ok-expanded.ensures.goes

applied : (g : _) (c : In_ok-applied g) → GoesOn c.args.self.now c.expand_all.new.self → GoesOn c.args.self.now c.apply_all.new.self
applied g c before = goes_trans c.args.self.now c.expand_all.new.self c.apply_all.new.self before c.in_ok-applied.ensures.goes

pub returns-in_err-applied : goal.returns-in_err-applied
returns-in_err-applied g c =
    let went = expanded g (goal.at.returns-in_err-applied g c).In_ok-expanded in
    broken_on Works c.args.self.now c.expand_all.new.self c.apply_all.new.self c.from_residual-in_err-applied.result c.in_err-applied.field-0.0
    c.from_residual-in_err-applied.ensures.1 went.keeps went.still c.in_err-applied.ensures

pub returns-in_err-sent : goal.returns-in_err-sent
returns-in_err-sent g c =
    let back = goal.at.returns-in_err-sent g c in
    let went = applied g back.In_ok-applied (expanded g back.In_ok-expanded) in
    broken_on Works c.args.self.now c.apply_all.new.self c.send_all.new.self c.from_residual-in_err-sent.result c.in_err-sent.field-0.0
    c.from_residual-in_err-sent.ensures.1 went.keeps went.still c.in_err-sent.ensures

pub returns : goal.returns
returns g c =
    let back = goal.at.returns g c in
    let went = applied g back.In_ok-applied (expanded g back.In_ok-expanded) in
    record {
      goes = goes_trans c.args.self.now c.apply_all.new.self c.send_all.new.self went c.in_ok-sent.ensures.goes;
      none = c.in_ok-sent.ensures.own ∙ c.in_ok-applied.ensures.none;
      few = adds_one c.args.self.now c.take_one.new.self c.apply_all.new.self c.send_all.new.self _ _ _ c.in_ok-took.ensures.step
          (c.in_ok-applied.ensures.endpoint ∙ c.in_ok-expanded.ensures.endpoint ∙ c.exchange_levels-limit.ensures.endpoint) c.in_ok-sent.ensures;
      took = c.in_ok-took.took;
      expanded = c.in_ok-expanded.expanded;
      applied = c.in_ok-applied.applied;
      sent = c.in_ok-sent.sent;
      small = _;
      limit = c.exchange_levels-limit.result;
      taker = c.take_one.new.self;
      hearer = c.exchange_levels-limit.new.self;
      expander = c.expand_all.new.self;
      sender = c.apply_all.new.self;
      takes = c.in_ok-took.ensures.step;
      hears = c.exchange_levels-limit.ensures;
      expands = c.in_ok-expanded.ensures;
      applies = c.in_ok-applied.ensures;
      sends = c.in_ok-sent.ensures;
      is_small = c.sends_small-small.ensures c.take_one.new.self.node c.level-level.ensures;
      is_done = refl;
    }
