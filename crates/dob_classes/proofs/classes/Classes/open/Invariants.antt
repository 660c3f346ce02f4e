-- The first blocks stand, and the count is of the classes in them.
use Rattle.dob_classes.proofs.Common.{◌≡◌, vec_len, classes_to_block}
use Rattle.dob_classes.specs.BlockTables.{AreBlocks}
use Rattle.dob_classes.proofs.classes.Classes.open.Given as goal

abbrev pub invariant-loop-number : goal.invariant-loop-number
invariant-loop-number l = record {
  blocks_are : AreBlocks l.family l.blocks.items;
  long : vec_len l.blocks ≡ l.number;
  count_is : l.count ≡ classes_to_block l.family l.number;
}
