-- Each run of the first hand adds its own classes.
use Rattle.std.proofs.Common.{◌+◌, arith}
use Rattle.dob_classes.proofs.Tables.RunTables.{marks_small}
use Rattle.dob_classes.proofs.Counting.ClassesBefore.{none_before, all_lions, one_run_more}
use Rattle.dob_classes.proofs.class_numbers.classes_of_lions.Goals as goal

pub loop-run-init : goal.loop-run-init
loop-run-init c = none_before c.args.family c.args.block

pub classes_in_run-count-requires-clause-run : goal.classes_in_run-count-requires-clause-run
classes_in_run-count-requires-clause-run c = omega (arith, all_lions c.args.family c.args.block c.requires.block, c.requires.lions, c.loop-run-test.true)

pub overflow_add-count : goal.overflow_add-count
overflow_add-count c =
    let more = one_run_more c.args.family c.args.block c.loop-run.run c.run_size_in-size.result c.loop-run.count c.classes_in_run-count.result
    c.run_size_in-size.ensures.value c.loop-run.invariant c.classes_in_run-count.ensures in
    let all = all_lions c.args.family c.args.block c.requires.block in
    let small = marks_small c.args.family c.args.block (c.loop-run.run + 1) c.requires.block (omega (arith, all, c.requires.lions, c.loop-run-test.true)) in
    omega (arith, more, small)

pub loop-run-preserved : goal.loop-run-preserved
loop-run-preserved c =
    one_run_more c.args.family c.args.block c.loop-run.run c.run_size_in-size.result c.loop-run.count c.classes_in_run-count.result
    c.run_size_in-size.ensures.value c.loop-run.invariant c.classes_in_run-count.ensures
