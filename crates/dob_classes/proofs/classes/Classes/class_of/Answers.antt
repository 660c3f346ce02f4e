-- By the board that shows the position.
use Rattle.dob_classes.proofs.OfFamilies.FamilyNumbers.{number_told}
use Rattle.dob_classes.proofs.classes.Classes.class_of.Goals as goal

pub class_by-requires : goal.class_by-requires
class_by-requires c = (c.args.position.now.setup, record { position = c.requires; squares = c.of.ensures })

pub returns : goal.returns
returns c =
    let s = c.args.position.now.setup in
    let number = c.class_by.ensures s (record { position = c.requires; squares = c.of.ensures }) in
    let told = number_told c.args.self.now.family s _ c.requires number in
    record { class = told.0; number = number; bound = told.1 }
