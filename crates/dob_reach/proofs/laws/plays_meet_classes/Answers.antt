-- The law.
use Rattle.dob_reach.proofs.Played.{plays_meet as law}
use Rattle.dob_reach.proofs.laws.plays_meet_classes.Goals as goal

pub returns : goal.returns
returns c = law
