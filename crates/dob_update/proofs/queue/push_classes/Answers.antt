-- One class more is kept.
use Rattle.dob_update.proofs.Common.{arith, common_steps}
use Rattle.dob_update.proofs.queue.push_classes.Goals as goal

pub loop-item-preserved : goal.loop-item-preserved
loop-item-preserved c = grind (arith, common_steps)
