-- The numbers are of one digit each.
use Rattle.dob_verdict.proofs.Common.{◌∙◌}
use Rattle.dob_verdict.proofs.Headed.{set_told}
use Rattle.dob_verdict.proofs.headers.set_text.Goals as goal

pub returns : goal.returns
returns c = c.in_ok-format.ensures.ok ∙ set_told c.args.set
