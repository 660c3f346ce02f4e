-- The walk over the position counts the edges.
use Rattle.std.proofs.Common.{sym, ◌∙◌}
use Rattle.dob_unmove.proofs.Classes.{IsNumbering-classes}
use Rattle.dob_unmove.proofs.Gathering.{own_image}
use Rattle.dob_unmove.proofs.InOneWalk.{found_in_one}
use Rattle.dob_unmove.proofs.Kept.{position_mirrored}
use Rattle.dob_unmove.specs.Classes.{RepresentsClass}
use Rattle.dob_reference.proofs.back.gather.Goals as goal

pub of-requires : goal.of-requires
of-requires c =
    let p = c.args.representative.now in
    (c.turned-after.result, (p.setup, p.legal, c.turned-after.ensures), c.of-board.ensures)

pub class_if_representative-requires : goal.class_if_representative-requires
class_if_representative-requires c =
    position_mirrored c.args.classes.now.family c.args.representative.now.setup c.mirrored-image.result.setup c.requires.1.0.0 c.mirrored-image.ensures

pub take_all-requires : goal.take_all-requires
take_all-requires c =
    let p = c.args.representative.now in (
      (p.setup, c.requires.1.0.0, c.turned-after.ensures),
      c.of.ensures c.turned-after.result (p.setup, p.legal, c.turned-after.ensures) c.of-board.ensures,
    )

pub returns : goal.returns
returns c =
    let Represents = RepresentsClass c.args.classes.now.family in
    let n = IsNumbering-classes c.args.classes.now.family in
    let q = c.args.representative.now in
    let own = own_image Represents q.setup c.mirrored-image.result.setup c.class_if_representative.result n c.requires c.mirrored-image.ensures
    c.class_if_representative.ensures in
    found_in_one Represents n c.is_some.result q.setup c.turned-after.result _ c.take_all.new.found.items q.legal
    (λ some. own.0 (sym c.is_some.ensures ∙ some), λ same. c.is_some.ensures ∙ own.1 same) c.turned-after.ensures c.clear.ensures.items
    c.in_ok-take_all.ensures
