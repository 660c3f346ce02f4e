-- The runner keeps its place and its family through the turns so far and the next, also where the next fails, for a reason.
use Rattle.dob_runner.proofs.Common.{◌∙◌, sym, says_no}
use Rattle.dob_runner.proofs.Keeping.{goes_trans, runner_trans, reasoned_unfailed}
use Rattle.dob_runner.proofs.TurnParts.{steps_keep, steps_reasoned, adds_more, turn_goes}
use Rattle.dob_runner.proofs.runner.Runner.go.Goals as goal

pub turn_alone-requires-clause-family : goal.turn_alone-requires-clause-family
turn_alone-requires-clause-family g c = c.requires.family ∙ sym c.loop.invariant.0.keeps.family

pub loop-preserved : goal.loop-preserved
loop-preserved g c = (
  goes_trans c.args.self.now c.loop.self c.turn_alone.new.self c.loop.invariant.0 c.in-Ok.ensures.works.goes,
  adds_more c.loop.counter c.args.self.now.endpoint c.loop.self.endpoint c.turn_alone.new.self.endpoint c.loop.invariant.0.keeps.endpoint c.loop.invariant.1 c.in-Ok.ensures.works.few,
)

pub returns-in_default-clause-keeps : goal.returns-in_default-clause-keeps
returns-in_default-clause-keeps g c =
    runner_trans c.args.self.now c.loop.self c.turn_alone.new.self c.loop.invariant.0.keeps
    (steps_keep c.loop.self c.turn_alone.new.self c.turn_alone.result
    (turn_goes c.loop.self c.turn_alone.new.self c.turn_alone.result c.turn_alone.ensures.works))

pub returns-in_default-clause-reasoned : goal.returns-in_default-clause-reasoned
returns-in_default-clause-reasoned g c =
    steps_reasoned (says_no (g.G.Gate.says c.args.gate.now)) c.loop.self c.turn_alone.new.self c.turn_alone.result
    (turn_goes c.loop.self c.turn_alone.new.self c.turn_alone.result c.turn_alone.ensures.works) c.turn_alone.ensures.reason

pub returns-clause-reasoned : goal.returns-clause-reasoned
returns-clause-reasoned g c = reasoned_unfailed (says_no (g.G.Gate.says c.args.gate.now)) c.loop.self c.loop.invariant.0.unfailed
