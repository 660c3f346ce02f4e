-- Where no open position of the family stood, nothing is added.
use Rattle.std.proofs.Common.{subst}
use Rattle.std.proofs.lemmas.Result.{on_ok_weaker}
use Rattle.dob_pieces.specs.declared.setup.Setup.{Setup}
use Rattle.dob_unmove.proofs.Images.{adds_none}
use Rattle.dob_unmove.specs.Classes.{RepresentsClass}
use Rattle.dob_unmove.specs.Gathers.{AddsClasses}
use Rattle.dob_unmove.specs.Undoes.{earlier}
use Rattle.dob_reference.proofs.back.FinderTaker.take.Goals as goal

pub returns-in-None : goal.returns-in-None
returns-in-None c =
    adds_none c.args.self.now.classes.now.family (earlier c.args.after.now c.args.undo)
    (λ is has. c.in-None.ensures is (record { legal = is.of_set.legal; open_to_move = has })) c.args.self.now.is_own_image c.args.found.now.items

pub returns-in-Some : goal.returns-in-Some
returns-in-Some c =
    let finder = c.args.self.now in
    on_ok_weaker c.push_classes.result
    (λ adds.
    subst (λ (s : Setup). AddsClasses finder.is_own_image (RepresentsClass finder.classes.now.family) s c.args.found.now.items c.push_classes.new.found.items)
    c.in-Some.ensures.0 (adds c.in-Some.ensures.1))
    c.push_classes.ensures
