-- What isn't found to be won is safe.
use Rattle.dob_certificate.proofs.Cases.{held_shown}
use Rattle.dob_certificate.proofs.asking.is_safe.Goals as goal

pub returns : goal.returns
returns g c = held_shown _ c.finds_won.result c.finds_won.ensures
