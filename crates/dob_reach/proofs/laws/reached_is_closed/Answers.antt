-- The law.
use Rattle.dob_reach.proofs.Played.{closed as law}
use Rattle.dob_reach.proofs.laws.reached_is_closed.Goals as goal

pub returns : goal.returns
returns c = law
