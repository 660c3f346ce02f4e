-- Each turn finds the classes of the runner's family, and keeps the runner's place whatever its answer; one that fails has a reason.
use Rattle.dob_runner.proofs.Common.{◌∙◌, inl, inr, refl, sym, says_no}
use Rattle.dob_runner.proofs.Keeping.{runner_trans, runner_same, turn_keeps, turn_reasoned, reasoned_unfailed}
use Rattle.dob_runner.proofs.TurnParts.{let_by_turn}
use Rattle.dob_runner.proofs.runner.Runner.make_turns.Goals as goal

pub turn-requires-clause-family : goal.turn-requires-clause-family
turn-requires-clause-family g c = c.requires.family ∙ sym c.loop.invariant.keeps.family

pub loop-init : goal.loop-init
loop-init g c = record {
  keeps = runner_same c.args.self.now;
  reasoned = reasoned_unfailed (says_no (g.G.Gate.says c.args.gate.now)) c.args.self.now c.requires.unfailed;
  let_on = inl refl;
}

pub loop-preserved : goal.loop-preserved
loop-preserved g c = record {
  keeps = runner_trans c.args.self.now c.loop.self c.turn.new.self c.loop.invariant.keeps (turn_keeps c.loop.self c.turn.new.self c.turn.result c.turn.ensures.turned);
  reasoned = turn_reasoned (says_no (g.G.Gate.says c.args.gate.now)) c.loop.self c.turn.new.self c.turn.result c.turn.ensures.turned c.turn.ensures.reason;
  let_on = inr (let_by_turn (g.G.Gate.says c.args.gate.now) c.loop.self c.turn.new.self c.turn.result c.turn.ensures.turned c.turn.ensures.asked);
}

pub returns-then-stopped-clause-let_on : goal.returns-then-stopped-clause-let_on
returns-then-stopped-clause-let_on g c = λ going unfailed. elim c.loop.invariant.let_on [
  | inl same ↦ absurd (c.stopped.ensures.0 c.if-stopped.true (same ∙ going))
  | inr let_on ↦ let_on unfailed
]
