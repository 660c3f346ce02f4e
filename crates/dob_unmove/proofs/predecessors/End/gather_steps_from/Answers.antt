-- The step without a catch, which may have been made, and then each catch.
use Rattle.dob_unmove.proofs.Common.{None, rules, on_ok_weaker, Unstep, setup_after}
use Rattle.dob_unmove.specs.Ends.{Takes}
use Rattle.dob_unmove.proofs.Dead.{comes_between, comes_step, home_before, steps_from}
use Rattle.dob_unmove.proofs.predecessors.End.gather_steps_from.Goals as goal

pub gather_one-requires-clause-home : goal.gather_one-requires-clause-home
gather_one-requires-clause-home c =
    home_before c.args.self.now.walk.now c.requires.end.walk (Unstep c.args.kind c.args.from c.args.self.now.to None) (search rules) c.requires.end.home
    c.requires.comes

pub returns : goal.returns
returns c =
    let end = c.args.self.now in
    let same = comes_between (setup_after end.walk.now) end.walk.now.ways.now.threat c.args.kind c.args.from end.to c.requires.stands c.requires.comes in
    on_ok_weaker c.gather_catch-4.result
    (λ last.
    steps_from (Takes end.walk.now) (setup_after end.walk.now) c.args.kind c.args.from end.to c.args.found.now.items _ _ _ _ _ same
    c.in_ok-gather_one.ensures c.in_ok-gather_catch.ensures c.in_ok-gather_catch-2.ensures c.in_ok-gather_catch-3.ensures last)
    c.gather_catch-4.ensures

pub gather_one-requires-clause-can : goal.gather_one-requires-clause-can
gather_one-requires-clause-can c =
    comes_step (setup_after c.args.self.now.walk.now) c.args.self.now.walk.now.ways.now.threat c.args.kind c.args.from c.args.self.now.to
    c.requires.stands c.requires.comes (search rules)
