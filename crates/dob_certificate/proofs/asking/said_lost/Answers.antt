-- By the status: where the game goes on, the list says it.
use Rattle.dob_certificate.proofs.Common.{arith, inl, Caught, Open}
use Rattle.dob_certificate.proofs.Cases.{of_status, over_by, says_caught, says_open}
use Rattle.dob_certificate.proofs.asking.said_lost.Goals as goal

pub returns-in-Caught : goal.returns-in-Caught
returns-in-Caught g c = says_caught _ _ _ (of_status _ _ c.status.ensures Caught c.in-Caught.is)

pub returns-in-Tried : goal.returns-in-Tried
returns-in-Tried g c = (inl (over_by _ _ c.status.ensures c.in-Tried.is), λ n said. omega arith)

pub returns-in-Open : goal.returns-in-Open
returns-in-Open g c = says_open _ _ _ (of_status _ _ c.status.ensures Open c.in-Open.is) c.plies_for.result c.plies_for.ensures
