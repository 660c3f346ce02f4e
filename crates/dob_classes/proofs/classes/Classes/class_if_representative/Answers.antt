-- The mark of the position's rank says whether it is a representative, and the marks before it are its class.
use Rattle.dob_classes.proofs.Common.{◌<◌, ◌∙◌, ◌≡◌, sym, Setup, HasClass, class_number, classes_of, IsFirstOfTwo, IsShown}
use Rattle.dob_classes.proofs.OfFamilies.FamilyNumbers.{first_told, later_unmarked}
use Rattle.dob_classes.proofs.classes.Classes.class_if_representative.Goals as goal

pub returns-then-is_representative : goal.returns-then-is_representative
returns-then-is_representative c =
    let family = c.args.self.now.family in
    let class = c.look_up-is_representative.result.1 in
    let told : (setup : Setup) → IsShown family setup c.args.board.now
    → (IsFirstOfTwo setup × HasClass family setup class) × (class ≡ class_number family setup) × (class < classes_of family)
    = λ setup shown. first_told family setup class shown.position (sym (c.look_up-is_representative.ensures.mark setup shown) ∙ c.if-is_representative.true)
    (sym (c.look_up-is_representative.ensures.before setup shown)) in
    record { class = λ setup shown. (told setup shown).0; number = λ setup shown. (told setup shown).1; bound = (told c.requires.0 c.requires.1).2 }

pub returns-else-is_representative-clause-class : goal.returns-else-is_representative-clause-class
returns-else-is_representative-clause-class c = λ setup shown.
    later_unmarked c.args.self.now.family setup shown.position
    (sym (c.look_up-is_representative.ensures.mark setup shown) ∙ c.if-is_representative.false)
