-- The two runners keep their places in their crew.
use Rattle.dob_runner.proofs.Keeping.{runner_trans}
use Rattle.dob_tests_threads.proofs.run.turns.failed_after_the_end.Goals as goal

pub close_both-built-requires-clause-crew : goal.close_both-built-requires-clause-crew
close_both-built-requires-clause-crew g c = λ κs.
    let made = c.two_runners-classes in (
      made.result.2,
      made.result.3,
      made.ensures.crew,
      c.turn_to_the_end.ensures.first,
      runner_trans made.result.3 c.turn_to_the_end.new.second c.turn_once.new.runner c.turn_to_the_end.ensures.second c.turn_once.ensures.keeps,
    )
