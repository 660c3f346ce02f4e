-- The classes before the end of the last block are the family's.
use Rattle.std.proofs.Common.{arith}
use Rattle.dob_classes.proofs.Tables.FamilyBlocks.{classes_all, count_told}
use Rattle.dob_classes.proofs.class_counts.count_classes.Goals as goal

pub classes_before_block-requires : goal.classes_before_block-requires
classes_before_block-requires c = omega (arith, c.blocks-end.ensures.value)

pub returns : goal.returns
returns c =
    let number = classes_all c.args.family c.blocks-end.result c.classes_before_block.result c.blocks-end.ensures.value c.classes_before_block.ensures in
    let told = count_told c.args.family _ number in
    record { count = told.0; number = number; bound = told.1 }
