-- Each kind of value shows in its way.
use Rattle.dob_certificate.proofs.claim.shows_value.Goals as goal

pub returns-in-Loss : goal.returns-in-Loss
returns-in-Loss g c = rw c.in-Loss.is c.shows_loss.ensures

pub returns-in-Win : goal.returns-in-Win
returns-in-Win g c = rw c.in-Win.is c.shows_win.ensures

pub returns-in-Draw : goal.returns-in-Draw
returns-in-Draw g c = rw c.in-Draw.is c.shows_draw.ensures
