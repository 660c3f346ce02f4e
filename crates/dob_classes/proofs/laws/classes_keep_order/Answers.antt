-- The law, from the numbering of the representatives.
use Rattle.dob_classes.proofs.OfFamilies.FamilyRepresentatives.{classes_keep_order as law}
use Rattle.dob_classes.proofs.laws.classes_keep_order.Goals as goal

pub returns : goal.returns
returns c = law
