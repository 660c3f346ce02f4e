-- Each kind in its way.
use Rattle.dob_certificate.proofs.Cases.{held_told, lost_told}
use Rattle.dob_certificate.proofs.asking.takes_for_lost.Goals as goal

pub returns-in-Lost : goal.returns-in-Lost
returns-in-Lost g c = rw c.in-Lost.is (lost_told _ c.is_said_lost.result c.is_said_lost.ensures)

pub returns-in-Held : goal.returns-in-Held
returns-in-Held g c = rw c.in-Held.is (held_told _ c.is_said_held.result c.is_said_held.ensures)
