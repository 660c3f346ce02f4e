-- The law, from the one representative of a position.
use Rattle.dob_classes.proofs.OfFamilies.FamilyRepresentatives.{one_class as law}
use Rattle.dob_classes.proofs.laws.one_class.Goals as goal

pub returns : goal.returns
returns c = law
