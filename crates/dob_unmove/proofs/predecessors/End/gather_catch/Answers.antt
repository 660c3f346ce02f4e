-- the lion before the catch
use Rattle.dob_unmove.proofs.Common.{◌≡◌, None, Some, refl, rules, sym, holds_caught, CanUnstep, Unstep, setup_after}
use Rattle.dob_unmove.proofs.Dead.{comes_step, home_before}
use Rattle.dob_unmove.proofs.predecessors.End.gather_catch.Goals as goal
use Rattle.dob_unmove.proofs.predecessors.End.gather_catch.Goals.{After-holds_caught}

-- the mover holds what was caught
held : (c : After-holds_caught) → c.holds_caught.result ≡ holds_caught (setup_after c.args.self.now.walk.now).hands.mover c.args.caught
held c = c.holds_caught.ensures (setup_after c.args.self.now.walk.now) c.requires.end.walk.ways_are

-- the step without a catch may have been made
free : (c : After-holds_caught) → CanUnstep (setup_after c.args.self.now.walk.now) c.args.kind c.args.from c.args.self.now.to None
free c =
    comes_step _ c.args.self.now.walk.now.ways.now.threat c.args.kind c.args.from c.args.self.now.to c.requires.stands c.requires.comes (search rules)

pub gather_one-requires-clause-can : goal.gather_one-requires-clause-can
gather_one-requires-clause-can c =
    let here = (goal.at.gather_one-requires-clause-can c).After-holds_caught in
    let holds = held here in
    let step = free here in
    search rules

pub gather_one-requires-clause-home : goal.gather_one-requires-clause-home
gather_one-requires-clause-home c =
    let here = (goal.at.gather_one-requires-clause-home c).After-holds_caught in
    let holds = held here in
    let step = free here in
    home_before c.args.self.now.walk.now c.requires.end.walk (Unstep c.args.kind c.args.from c.args.self.now.to (Some c.args.caught)) (search rules)
    c.requires.end.home c.requires.comes

pub gather_one-requires-clause-walk : goal.gather_one-requires-clause-walk
gather_one-requires-clause-walk c = c.requires.end.walk

pub returns-then-not-holds_caught : goal.returns-then-not-holds_caught
returns-then-not-holds_caught c =
    rw (sym (held (goal.at.returns-then-not-holds_caught c).After-holds_caught), c.if-not-holds_caught.true) refl
