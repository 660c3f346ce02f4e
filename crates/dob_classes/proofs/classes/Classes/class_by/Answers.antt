-- A position and its mirror image have one class number.
use Rattle.dob_classes.proofs.Common.{◌∙◌, mirrored}
use Rattle.dob_classes.proofs.OfFamilies.FamilyNumbers.{IsPositionOf-mirrored, class_number-mirrored}
use Rattle.dob_classes.proofs.classes.Classes.class_by.Goals as goal

pub class_of_either-requires : goal.class_of_either-requires
class_of_either-requires c =
    let s = c.requires.0 in
    let shown = c.requires.1 in (
      mirrored s,
      record { position = IsPositionOf-mirrored c.args.self.now.family s shown.position; squares = c.mirrored.ensures s shown.squares },
    )

pub returns-then-is_later_image : goal.returns-then-is_later_image
returns-then-is_later_image c = λ s shown.
    let family = c.args.self.now.family in
    c.class_of_either.ensures (mirrored s)
    (record { position = IsPositionOf-mirrored family s shown.position; squares = c.mirrored.ensures s shown.squares })
    ∙ class_number-mirrored family s shown.position
