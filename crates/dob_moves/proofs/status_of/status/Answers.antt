-- The board shows the position.
use Rattle.dob_moves.proofs.Common.{subst, HasStatus, Setup}
use Rattle.dob_moves.proofs.status_of.status.Goals as goal

pub returns : goal.returns
returns c = subst (λ (p : Setup). HasStatus c.args.profile p c.status.result) c.of.ensures c.status.ensures
