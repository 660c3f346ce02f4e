-- The representative of that number in its run.
use Rattle.std.proofs.Common.{arith}
use Rattle.dob_classes.proofs.Tables.FamilyBlocks.{representative_at}
use Rattle.dob_classes.proofs.block_classes.BlockClasses.spot_at.Goals as goal

pub number_at-number-requires-clause-left : goal.number_at-number-requires-clause-left
number_at-number-requires-clause-left c = (let at = c.run_at-run.ensures in omega (arith, at.left, at.high))

pub returns : goal.returns
returns c =
    let block = c.args.self.now in
    let at = representative_at block.family block.number c.run_at-run.result.0 c.number_at-number.result c.place_at.result c.run_at-run.result.1 c.args.class
    c.place_at.ensures c.number_at-number.ensures.mark c.number_at-number.ensures.left c.run_at-run.ensures.left in
    record { run = c.run_at-run.ensures.run; local = at.local_below; mark = at.mark_is; class = at.class_is }
