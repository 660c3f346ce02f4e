-- One class more is kept, or left out.
use Rattle.dob_update.proofs.Common.{arith, common_steps}
use Rattle.dob_update.proofs.queue.push_owned_by.Goals as goal

pub loop-class-preserved : goal.loop-class-preserved
loop-class-preserved g c = grind (arith, common_steps)
