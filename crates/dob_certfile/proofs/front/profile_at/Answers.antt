-- The profile whose number the byte is, if it is one's.
use Rattle.dob_certfile.proofs.Common.{◌∙◌, ap, sym, profile_at}
use Rattle.dob_certfile.proofs.Fronts.{profile_again, profile_none}
use Rattle.dob_certfile.proofs.front.profile_at.Goals as goal

pub returns-in-Some : goal.returns-in-Some
returns-in-Some c = sym (profile_again c.in-Some.profile) ∙ ap profile_at c.in-Some.ensures

pub returns-in-None : goal.returns-in-None
returns-in-None c = sym (profile_none c.args.byte c.in-None.ensures)
