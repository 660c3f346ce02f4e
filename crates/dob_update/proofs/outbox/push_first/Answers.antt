-- There is room for the first classes.
use Rattle.dob_update.proofs.Common.{◌++◌, ◌∙◌, Bool, ap, arith, cond, length-take-le, take}
use Rattle.dob_update.proofs.outbox.push_first.Goals as goal

pub returns : goal.returns
returns c =
    let old = c.args.list.now.items in
    let first = take c.args.k c.args.classes.now in
    let many = length-take-le c.args.k c.args.classes.now c.requires.within in
    let room = c.requires.room in
    c.extend_from_slice.ensures.items
    ∙ ap (λ (b : Bool). cond b (old ++ first) old) (c.extend_from_slice.ensures.succeeds (omega (arith, many, room)))
