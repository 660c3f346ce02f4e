-- The count is of the classes in the blocks so far.
use Rattle.dob_classes.proofs.Common.{◌≡◌, classes_to_block}
use Rattle.dob_classes.proofs.class_numbers.classes_before_block.Given as goal

abbrev pub invariant-loop-earlier : goal.invariant-loop-earlier
invariant-loop-earlier l = l.count ≡ classes_to_block l.family l.earlier
