-- The list has the run at its lions.
use Rattle.std.proofs.Common.{arith}
use Rattle.dob_classes.proofs.Tables.RunTables.{entry_in}
use Rattle.dob_classes.proofs.block_classes.BlockClasses.before_lions.Goals as goal

pub index-requires : goal.index-requires
index-requires c = (let whole = c.args.self.now.whole in omega (arith, whole, c.requires))

pub returns : goal.returns
returns c =
    let block = c.args.self.now in
    let run = entry_in block c.args.lions c.index.result.now c.requires c.index.ensures in
    omega (arith, run.before_is, block.starts)
