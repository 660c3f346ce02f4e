-- A position of the family is a representative exactly where it is the earlier of its two.
use Rattle.dob_classes.specs.Views.{IsShown}
use Rattle.dob_unmove.proofs.Classes.{first_of_two}
use Rattle.dob_reference.proofs.back.class_if_representative.Goals as goal
use Rattle.dob_reference.proofs.back.class_if_representative.Goals.{After-of}

shown : (c : After-of) → IsShown c.args.classes.now.family c.args.position.now.setup c.of.result
shown c = record { position = c.requires; squares = c.of.ensures }

pub class_if_representative-requires : goal.class_if_representative-requires
class_if_representative-requires c = (c.args.position.now.setup, shown (goal.at.class_if_representative-requires c).After-of)

pub returns : goal.returns
returns c =
    let p = c.args.position.now.setup in
    first_of_two c.args.classes.now.family p c.class_if_representative.result c.requires
    (c.class_if_representative.ensures.class p (shown (goal.at.returns c).After-of))
