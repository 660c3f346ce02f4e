-- A walk from the run's start passes all representatives before the place.
use Rattle.dob_classes.proofs.Common.{◌∙◌, ap, arith, marks_below_none, marks_below, is_there, local_marks_in}
use Rattle.dob_classes.proofs.class_numbers.classes_in_stretches.Goals as goal

pub returns : goal.returns
returns c =
    let mark = local_marks_in c.args.family c.args.block c.args.run in
    let there = is_there c.args.family c.args.block c.args.run in
    let none = ap (marks_below mark) (c.walk_from-walk.ensures.walk.number_is ∙ ap (marks_below there) c.walk_from-walk.ensures.place ∙ marks_below_none there)
    ∙ marks_below_none mark in
    omega (arith, none, ap (marks_below mark) (c.walk_to.ensures.walk.number_is ∙ ap (marks_below there) c.walk_to.ensures.place), c.walk_to.ensures.count)
