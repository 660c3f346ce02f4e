-- What is added has no control character either.
use Rattle.dob_cli.proofs.Causes.{lacks_more}
use Rattle.dob_cli.proofs.shown.shown.Goals as goal

pub loop-place-preserved : goal.loop-place-preserved
loop-place-preserved c = lacks_more _ _ c.in_ok-push_shown.ensures c.loop-place.invariant
