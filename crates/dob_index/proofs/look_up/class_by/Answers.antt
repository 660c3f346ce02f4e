-- The class of a position is that of the earlier of it and its mirror image.
use Rattle.dob_index.proofs.Common.{◌∙◌, class_of_earlier}
use Rattle.dob_classes.proofs.OfFamilies.FamilyRepresentatives.{representative_is}
use Rattle.dob_index.proofs.look_up.class_by.Goals as goal

pub classes_before-requires : goal.classes_before-requires
classes_before-requires c =
    (representative_is c.args.family c.args.position.now.setup c.representative.result.setup c.requires c.representative.ensures.earlier).0

pub returns : goal.returns
returns c = λ is.
    c.classes_before.ensures is
    ∙ class_of_earlier c.args.family c.args.position.now.setup c.representative.result.setup c.requires c.representative.ensures.earlier
