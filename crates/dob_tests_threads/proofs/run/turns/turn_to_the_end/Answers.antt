-- What both runners kept so far they keep through one turn more, and so does the first at its last turn.
use Rattle.dob_runner.proofs.Keeping.{runner_trans}
use Rattle.dob_tests_threads.proofs.run.turns.turn_to_the_end.Goals as goal

pub loop-preserved : goal.loop-preserved
loop-preserved g c = record {
  one = runner_trans c.args.first.now c.loop.first c.turn_once-halt.new.runner c.loop.invariant.one c.turn_once-halt.ensures.keeps;
  other = runner_trans c.args.second.now c.loop.second c.turn_once.new.runner c.loop.invariant.other c.turn_once.ensures.keeps;
  families = (c.turn_once-halt.ensures.family, c.turn_once.ensures.family);
}

pub returns-then-eq-clause-first : goal.returns-then-eq-clause-first
returns-then-eq-clause-first g c = runner_trans c.args.first.now c.loop.first c.turn_once-halt.new.runner c.loop.invariant.one c.turn_once-halt.ensures.keeps
