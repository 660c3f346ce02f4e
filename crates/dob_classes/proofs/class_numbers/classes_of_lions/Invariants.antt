-- The count is of the representatives in the runs so far.
use Rattle.dob_classes.proofs.Common.{◌+◌, ◌≡◌, classes_to_block, classes_to_run}
use Rattle.dob_classes.proofs.class_numbers.classes_of_lions.Given as goal

abbrev pub invariant-loop-run : goal.invariant-loop-run
invariant-loop-run l =
    classes_to_block l.family l.block + l.count ≡ classes_to_run l.family l.block l.run
