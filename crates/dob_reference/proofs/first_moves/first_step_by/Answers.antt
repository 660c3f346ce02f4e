-- At the start all steps are left.
use Rattle.std.proofs.Common.{refl}
use Rattle.dob_reference.proofs.first_moves.first_step_by.Goals as goal

pub loop-step-init : goal.loop-step-init
loop-step-init c = refl
