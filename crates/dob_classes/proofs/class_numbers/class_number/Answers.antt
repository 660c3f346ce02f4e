-- The class of a position is that of the earlier of it and its mirror image.
use Rattle.std.proofs.Common.{◌∙◌}
use Rattle.dob_classes.proofs.OfFamilies.FamilyNumbers.{number_told}
use Rattle.dob_classes.proofs.OfFamilies.FamilyRepresentatives.{representative_is}
use Rattle.dob_classes.proofs.Counting.ClassesBefore.{class_of_earlier}
use Rattle.dob_classes.proofs.class_numbers.class_number.Goals as goal

pub classes_before_position-requires : goal.classes_before_position-requires
classes_before_position-requires c =
    (representative_is c.args.family c.args.position.now.setup c.representative.result.setup c.requires c.representative.ensures.earlier).0

pub returns : goal.returns
returns c =
    let p = c.args.position.now.setup in
    let number = c.classes_before_position.ensures
    ∙ class_of_earlier c.args.family p c.representative.result.setup c.requires c.representative.ensures.earlier in
    let told = number_told c.args.family p _ c.requires number in
    record { class = told.0; number = number; bound = told.1 }
