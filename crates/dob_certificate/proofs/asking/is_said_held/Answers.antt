-- By the status: where the game goes on, within one ply or by the list.
use Rattle.dob_certificate.proofs.Cases.{said_held_caught, said_held_over}
use Rattle.dob_certificate.proofs.asking.is_said_held.Goals as goal

pub returns-in-Caught : goal.returns-in-Caught
returns-in-Caught g c = said_held_caught _ _ _ _ c.in-Caught.is c.status.ensures

pub returns-in-Tried : goal.returns-in-Tried
returns-in-Tried g c = said_held_over _ _ _ _ c.in-Tried.is c.status.ensures
