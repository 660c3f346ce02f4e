-- Each kind of claim shows in its way.
use Rattle.dob_certificate.proofs.claim.is_shown.Goals as goal

pub returns-in-Exactly : goal.returns-in-Exactly
returns-in-Exactly g c = rw c.in-Exactly.is c.shows_value.ensures

pub returns-in-LostWithin : goal.returns-in-LostWithin
returns-in-LostWithin g c = rw c.in-LostWithin.is c.is_said_lost.ensures

pub returns-in-WonWithin : goal.returns-in-WonWithin
returns-in-WonWithin g c = rw c.in-WonWithin.is c.shows_won.ensures
