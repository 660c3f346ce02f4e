-- Where a lawful ring is announceable, all nodes are white and each batch posted is taken.
use Rattle.dob_safra.proofs.Quiet.{quiet}
use Rattle.dob_safra.proofs.laws.announceable_is_quiet.Goals as goal

pub returns : goal.returns
returns c = quiet
