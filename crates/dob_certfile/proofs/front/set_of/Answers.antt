-- The bytes name a set, or none.
use Rattle.dob_certfile.proofs.Common.{◌∙◌, ap, set_at, sym}
use Rattle.dob_certfile.proofs.Fronts.{set_again, set_none}
use Rattle.dob_certfile.proofs.front.set_of.Goals as goal

pub returns-in-Some : goal.returns-in-Some
returns-in-Some c = sym (ap set_at c.in-Some.ensures ∙ set_again c.in-Some.set)

pub returns-in-None : goal.returns-in-None
returns-in-None c = set_none c.args.bytes.now c.requires c.in-None.ensures
