-- The class stands before the end of the last block, and no class before the first.
use Rattle.std.proofs.Common.{◌∙◌}
use Rattle.dob_classes.proofs.Tables.FamilyBlocks.{class_in_blocks, in_first}
use Rattle.dob_classes.proofs.classes.Classes.block_at.Goals as goal

pub loop-block-init : goal.loop-block-init
loop-block-init c =
    class_in_blocks c.args.self.now.family c.args.class c.len-block.result c.requires (c.len-block.ensures ∙ c.args.self.now.whole)

pub returns : goal.returns
returns c = absurd (in_first c.args.self.now.family c.args.class c.loop-block.block c.loop-block-test.false c.loop-block.invariant)
