-- One class more is swept.
use Rattle.dob_value.proofs.Common.{arith, common_steps}
use Rattle.dob_value.proofs.sweep.sweep_once.Goals as goal

pub loop-number-preserved : goal.loop-number-preserved
loop-number-preserved c = grind (arith, common_steps)
