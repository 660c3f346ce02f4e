-- A turn keeps the runner's place in its crew, and its family, which is still that of the classes.
use Rattle.std.proofs.Common.{◌≡◌, Result, Ok, Err, None, sym, ◌∙◌}
use Rattle.std.specs.Prelude.{MatchResult, OnOk}
use Rattle.dob_board.specs.declared.halt.Halt.{Halt}
use Rattle.dob_share.specs.declared.cause.Cause.{Cause}
use Rattle.dob_runner.specs.declared.runner.Runner.{Runner}
use Rattle.dob_runner.specs.Runners.{HasFailed}
use Rattle.dob_runner.specs.Turns.{HasTurned}
use Rattle.dob_runner.proofs.Keeping.{turn_keeps}
use Rattle.dob_tests_threads.proofs.run.turns.turn_once.Goals as goal

pub returns-clause-keeps : goal.returns-clause-keeps
returns-clause-keeps g c = turn_keeps c.args.runner.now c.turn.new.self c.turn.result c.turn.ensures.turned

pub returns-clause-family : goal.returns-clause-family
returns-clause-family g c =
    c.requires ∙ sym (turn_keeps c.args.runner.now c.turn.new.self c.turn.result c.turn.ensures.turned).family

-- a turn that is answered is one of a runner that hasn't failed
still_going : (old new : Runner) (result : Result Halt Cause) → MatchResult result (HasTurned old new) (HasFailed old new) → OnOk result (new.failed ≡ None)
still_going old new (Ok halt) turned = turned.unfailed
still_going old new (Err why) failed = tt

pub returns-clause-going : goal.returns-clause-going
returns-clause-going g c = still_going c.args.runner.now c.turn.new.self c.turn.result c.turn.ensures.turned
