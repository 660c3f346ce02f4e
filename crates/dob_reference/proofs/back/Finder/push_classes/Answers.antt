-- The position adds itself, and its mirror image where images count.
use Rattle.std.proofs.Common.{subst, sym, Bool}
use Rattle.std.proofs.lemmas.Result.{on_ok_weaker}
use Rattle.dob_pieces.specs.declared.setup.Setup.{Setup}
use Rattle.dob_unmove.proofs.Images.{adds_each, adds_itself}
use Rattle.dob_unmove.proofs.Kept.{position_mirrored}
use Rattle.dob_unmove.specs.Classes.{RepresentsClass}
use Rattle.dob_unmove.specs.Gathers.{AddsClasses, Appends}
use Rattle.dob_reference.proofs.back.Finder.push_classes.Goals as goal

pub push_representative-requires-2 : goal.push_representative-requires-2
push_representative-requires-2 c =
    position_mirrored c.args.self.now.classes.now.family c.args.position.now.setup c.mirrored.result.setup c.requires c.mirrored.ensures

pub returns-then-self : goal.returns-then-self
returns-then-self c = λ has.
    let Rep = RepresentsClass c.args.self.now.classes.now.family in
    subst (λ (own : Bool). AddsClasses own Rep c.args.position.now.setup c.args.found.now.items c.push_representative.new.found.items) (sym c.if-self.true)
    (adds_itself Rep c.args.position.now.setup _ _ has c.in_ok-push_representative.ensures)

pub returns : goal.returns
returns c =
    let Rep = RepresentsClass c.args.self.now.classes.now.family in
    let p = c.args.position.now in
    let last = c.push_representative-2 in
    on_ok_weaker last.result
    (λ step has.
    subst (λ (own : Bool). AddsClasses own Rep p.setup c.args.found.now.items last.new.found.items) (sym c.if-self.false)
    (adds_each Rep p.setup _ _ _ p.legal.squares has c.in_ok-push_representative.ensures
    (subst (λ (s : Setup). Appends Rep s c.push_representative.new.found.items last.new.found.items) c.mirrored.ensures step)))
    last.ensures
