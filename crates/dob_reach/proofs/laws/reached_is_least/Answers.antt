-- The law.
use Rattle.dob_reach.proofs.Played.{least as law}
use Rattle.dob_reach.proofs.laws.reached_is_least.Goals as goal

pub returns : goal.returns
returns c = law
