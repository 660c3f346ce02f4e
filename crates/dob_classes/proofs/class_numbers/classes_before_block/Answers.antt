-- Each block adds its own classes.
use Rattle.std.proofs.Common.{◌∙◌, arith}
use Rattle.dob_classes.proofs.Tables.FamilyBlocks.{no_classes_yet}
use Rattle.dob_classes.proofs.Counting.ClassesBefore.{block_end}
use Rattle.dob_classes.proofs.class_numbers.classes_before_block.Goals as goal

pub loop-earlier-init : goal.loop-earlier-init
loop-earlier-init c = no_classes_yet c.args.family

pub loop-earlier-preserved : goal.loop-earlier-preserved
loop-earlier-preserved c =
    let runs = c.count_runs-runs.ensures.value in
    c.before_run-count.ensures c.args.family c.loop-earlier.earlier (omega (arith, c.requires, c.loop-earlier-test.true)) (omega (arith, runs)) c.row_of.ensures
    ∙ block_end c.args.family c.loop-earlier.earlier c.count_runs-runs.result runs
