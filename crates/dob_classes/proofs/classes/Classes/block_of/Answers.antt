-- The block of the number that is found.
use Rattle.std.proofs.Common.{arith}
use Rattle.dob_classes.proofs.Tables.FamilyBlocks.{classes_read}
use Rattle.dob_classes.proofs.classes.Classes.block_of.Goals as goal

pub returns : goal.returns
returns c =
    let classes = c.args.self.now in
    let at = classes_read classes.family classes.blocks.items c.block_at.result c.index.result.now classes.table
    (omega (arith, c.block_at.ensures.block, classes.whole, classes.blocks.ok)) c.index.ensures in
    let low = at.before_is in
    let high = at.after_is in
    record { family = at.is.family_is; low = omega (arith, low, c.block_at.ensures.low); high = omega (arith, high, c.block_at.ensures.high) }
