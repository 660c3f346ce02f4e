-- The fewest plies decide.
use Rattle.dob_certificate.proofs.Cases.{said_no, said_within}
use Rattle.dob_certificate.proofs.asking.is_said_lost.Goals as goal

pub returns-in-Some : goal.returns-in-Some
returns-in-Some g c = said_within _ _ _ c.in-Some.fewest c.args.plies c.in-Some.ensures

pub returns-in-None : goal.returns-in-None
returns-in-None g c = said_no (c.in-None.ensures c.args.plies)
