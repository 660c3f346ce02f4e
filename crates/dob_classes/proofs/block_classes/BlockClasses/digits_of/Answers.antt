-- The list has them.
use Rattle.std.proofs.Common.{arith, subst, sym}
use Rattle.dob_classes.proofs.Common.{◌≡◌, digits_of, run_bases, run_digits}
use Rattle.dob_rank.specs.declared.runs.RunDigits.{RunDigits}
use Rattle.dob_classes.proofs.block_classes.BlockClasses.digits_of.Goals as goal

pub index-requires : goal.index-requires
index-requires c = (let block = c.args.self.now in omega (arith, c.requires, block.each))

pub returns : goal.returns
returns c =
    let block = c.args.self.now in
    subst (λ (entry : RunDigits). run_digits entry ≡ digits_of (run_bases block.family.set block.on_board) c.args.run) (sym c.index.ensures)
    (block.told.each c.args.run c.index.result.now (omega (arith, c.requires, block.each)))
