-- A marked position's class is the number of marks before it, another one's that of the marks before its mirror image.
use Rattle.dob_classes.proofs.Common.{◌∙◌, mirrored, refl, sym, Setup, IsShown}
use Rattle.dob_classes.proofs.OfFamilies.FamilyNumbers.{IsPositionOf-mirrored, class_of_marked, class_of_unmarked}
use Rattle.dob_classes.proofs.classes.Classes.class_of_either.Goals as goal
use Rattle.dob_classes.proofs.classes.Classes.class_of_either.Goals.{After-mirrored}

image_shown : (c : After-mirrored) (s : Setup) → IsShown c.args.self.now.family s c.args.board.now
    → IsShown c.args.self.now.family (mirrored s) c.mirrored.result
image_shown c s shown = record {
  position = IsPositionOf-mirrored c.args.self.now.family s shown.position;
  squares = c.mirrored.ensures s shown.squares;
}

pub look_up-requires : goal.look_up-requires
look_up-requires c = (mirrored c.requires.0, image_shown (goal.at.look_up-requires c).After-mirrored c.requires.0 c.requires.1)

pub returns-then-is_representative : goal.returns-then-is_representative
returns-then-is_representative c = λ s shown.
    class_of_marked c.args.self.now.family s _ shown.position
    (sym (c.look_up-is_representative.ensures.mark s shown) ∙ c.if-is_representative.true)
    (c.look_up-is_representative.ensures.before s shown)

pub returns-else-is_representative : goal.returns-else-is_representative
returns-else-is_representative c = λ s shown.
    class_of_unmarked c.args.self.now.family s (mirrored s) _ shown.position
    (sym (c.look_up-is_representative.ensures.mark s shown) ∙ c.if-is_representative.false) refl
    (c.look_up.ensures.before (mirrored s) (image_shown (goal.at.returns-else-is_representative c).After-mirrored s shown))
