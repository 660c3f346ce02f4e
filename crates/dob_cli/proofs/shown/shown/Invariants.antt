-- What is shown so far has no control character.
use Rattle.dob_cli.proofs.shown.shown.Given as goal
use Rattle.dob_cli.specs.Runs.{LacksControls}

abbrev pub invariant-loop-place : goal.invariant-loop-place
invariant-loop-place l = LacksControls l.shown.items
