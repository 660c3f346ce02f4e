-- The place found is marked.
use Rattle.dob_classes.proofs.OfFamilies.FamilyRepresentatives.{class_setup_is as law}
use Rattle.dob_classes.proofs.laws.rows_are_representatives.Goals as goal

pub returns : goal.returns
returns c = law
