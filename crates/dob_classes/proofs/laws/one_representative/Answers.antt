-- The law, from the numbering of the representatives.
use Rattle.dob_classes.proofs.OfFamilies.FamilyRepresentatives.{one_representative as law}
use Rattle.dob_classes.proofs.laws.one_representative.Goals as goal

pub returns : goal.returns
returns c = law
