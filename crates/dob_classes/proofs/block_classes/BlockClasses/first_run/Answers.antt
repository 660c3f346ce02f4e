-- The list has the run at its lions.
use Rattle.std.proofs.Common.{arith}
use Rattle.dob_classes.proofs.Tables.RunTables.{entry_in}
use Rattle.dob_classes.proofs.block_classes.BlockClasses.first_run.Goals as goal

pub index-requires : goal.index-requires
index-requires c = (let whole = c.args.self.now.whole in omega (arith, whole))

pub returns : goal.returns
returns c = entry_in c.args.self.now _ c.index.result.now (omega arith) c.index.ensures
