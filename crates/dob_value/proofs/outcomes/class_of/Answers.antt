-- The board shows the position.
use Rattle.dob_classes.proofs.OfFamilies.FamilyNumbers.{number_told}
use Rattle.dob_moves.specs.Shown.{setup_on}
use Rattle.dob_value.proofs.outcomes.class_of.Goals as goal

pub class_by-requires : goal.class_by-requires
class_by-requires c = (setup_on c.args.position.now.board, record { position = c.requires; squares = c.args.position.now.shows })

pub returns : goal.returns
returns c =
    let s = setup_on c.args.position.now.board in
    let number = c.class_by.ensures s (record { position = c.requires; squares = c.args.position.now.shows }) in
    let told = number_told c.args.classes.now.family s _ c.requires number in
    record { class = told.0; bound = told.1 }
