-- Of the position and its mirror image one is the representative, or both are where they are the same, and then the lions stand on column b.
use Rattle.dob_unmove.proofs.Common.{◌∙◌, mirrored, on_ok_weaker, subst, sym, true≢false, Bool, IsShown, IsPositionOf-mirrored, RepresentsClass}
use Rattle.dob_classes.proofs.OfFamilies.FamilyNumbers.{IsInClass-class_number}
use Rattle.dob_rank.specs.Families.{IsInClass}
use Rattle.dob_unmove.proofs.Images.{adds_each, adds_itself, adds_one}
use Rattle.dob_unmove.specs.Gathers.{AddsClasses}
use Rattle.dob_pieces.specs.declared.setup.Setup.{Setup}
use Rattle.dob_unmove.proofs.predecessors.RetroMoves.gather_class.Goals as goal
use Rattle.dob_unmove.proofs.predecessors.RetroMoves.gather_class.Goals.{After-mirrored}

-- the mirrored board shows the image
image_shown : (c : After-mirrored) (p : Setup) → IsShown c.args.self.now.classes.now.family p c.args.before.now
    → IsShown c.args.self.now.classes.now.family (mirrored p) c.mirrored.result
image_shown c p is = record {
  position = IsPositionOf-mirrored c.args.self.now.classes.now.family p is.position;
  squares = c.mirrored.ensures p is.squares;
}

pub push_representative-requires-then-has_lions_on_b-2 : goal.push_representative-requires-then-has_lions_on_b-2
push_representative-requires-then-has_lions_on_b-2 c =
    (mirrored c.requires.0, image_shown (goal.at.push_representative-requires-then-has_lions_on_b-2 c).After-mirrored c.requires.0 c.requires.1)

pub returns-then-self : goal.returns-then-self
returns-then-self c =
    let Rep = RepresentsClass c.args.self.now.classes.now.family in
    on_ok_weaker c.push_representative.result
    (λ step p is has.
    subst (λ (own : Bool). AddsClasses own Rep p c.args.found.now.items c.push_representative.new.found.items) (sym c.if-self.true)
    (adds_itself Rep p _ _ has (step p is)))
    c.push_representative.ensures

pub returns-then-has_lions_on_b : goal.returns-then-has_lions_on_b
returns-then-has_lions_on_b c =
    let Rep = RepresentsClass c.args.self.now.classes.now.family in
    let last = c.push_representative-then-has_lions_on_b-2 in
    on_ok_weaker last.result
    (λ step p is has.
    subst (λ (own : Bool). AddsClasses own Rep p c.args.found.now.items last.new.found.items) (sym c.if-self.false)
    (adds_each Rep p _ _ _ is.position.of_set.legal.squares has (c.in_ok-push_representative.ensures p is)
    (step (mirrored p) (image_shown (goal.at.returns-then-has_lions_on_b c).After-mirrored p is))))
    last.ensures

pub returns : goal.returns
returns c = λ p is has.
    let family = c.args.self.now.classes.now.family in
    let inside : IsInClass family p c.class_by.result = subst (IsInClass family p) (sym (c.class_by.ensures p is)) (IsInClass-class_number family p is.position) in
    subst (λ (own : Bool). AddsClasses own (RepresentsClass family) p c.args.found.now.items c.push.new.self.items) (sym c.if-self.false)
    (adds_one family p c.class_by.result _ _ inside
    (λ own. true≢false (sym (c.has_lions_on_b.ensures p is.position.of_set.legal.lions is.squares own) ∙ c.if-has_lions_on_b.false)) has c.in_ok-push.ensures.items)
