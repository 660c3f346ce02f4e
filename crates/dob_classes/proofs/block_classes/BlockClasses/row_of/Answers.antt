-- The block's own numbers, and that of the first hand's run.
use Rattle.std.proofs.Common.{arith}
use Rattle.dob_classes.proofs.block_classes.BlockClasses.row_of.Goals as goal

pub returns : goal.returns
returns c = (let block = c.args.self.now in record {
  before_is = block.starts;
  hand_is = omega (arith, block.starts, block.hands);
  run_is = c.first_run.ensures.before_is;
})
