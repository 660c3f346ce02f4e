-- The law.
use Rattle.dob_reach.proofs.Played.{are_met as law}
use Rattle.dob_reach.proofs.laws.classes_are_met.Goals as goal

pub returns : goal.returns
returns c = law
