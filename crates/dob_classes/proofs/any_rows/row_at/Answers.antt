-- The row's own numbers.
use Rattle.std.proofs.Common.{◌%◌, arith}
use Rattle.dob_classes.proofs.any_rows.row_at.Goals as goal

pub returns : goal.returns
returns c = λ family block row. record {
  before_is = row.start 0;
  hand_is = row.counts 99 0 (omega arith);
  run_is = row.counts (c.args.run % 99) 0 (omega arith);
}
