-- The law, from the numbering of the positions.
use Rattle.dob_classes.proofs.OfFamilies.FamilyRepresentatives.{ranks_keep_order as law}
use Rattle.dob_classes.proofs.laws.ranks_keep_order.Goals as goal

pub returns : goal.returns
returns c = law
