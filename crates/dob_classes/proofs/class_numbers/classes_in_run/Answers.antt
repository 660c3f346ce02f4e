-- The kind of a run says how many marks it has before a place, or its stretches do.
use Rattle.std.proofs.Common.{false, sym, true, ◌∙◌}
use Rattle.dob_classes.proofs.Counting.ClassesBefore.{in_run_before, told_before}
use Rattle.dob_classes.proofs.class_numbers.classes_in_run.Goals as goal

pub returns-in-First : goal.returns-in-First
returns-in-First c = rw c.count_before.ensures
    (told_before c.args.family c.args.block c.args.run c.args.place true c.requires.block c.requires.run c.requires.place
    (sym c.kind_of.ensures ∙ c.in-First.is))

pub returns-in-Later : goal.returns-in-Later
returns-in-Later c =
    told_before c.args.family c.args.block c.args.run c.args.place false c.requires.block c.requires.run c.requires.place
    (sym c.kind_of.ensures ∙ c.in-Later.is)

pub returns-in-Mixed : goal.returns-in-Mixed
returns-in-Mixed c =
    in_run_before c.args.family c.args.block c.args.run c.args.place c.classes_in_mixed_run.result c.requires.block c.requires.run c.requires.place
    c.classes_in_mixed_run.ensures
