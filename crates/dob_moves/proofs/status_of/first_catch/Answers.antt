-- The board shows the position.
use Rattle.dob_moves.proofs.Common.{subst, CanCatch, IsFirstCatch, MatchOption, Setup}
use Rattle.dob_moves.proofs.status_of.first_catch.Goals as goal

pub returns : goal.returns
returns c =
    subst (λ (p : Setup). MatchOption c.first_catch.result (¬ CanCatch p) (λ m. IsFirstCatch p m)) c.of.ensures c.first_catch.ensures
