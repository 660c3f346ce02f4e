-- The spot is one of the block.
use Rattle.dob_classes.proofs.Common.{refl}
use Rattle.dob_classes.proofs.Tables.FamilyBlocks.{spot_in_block}
use Rattle.dob_classes.proofs.block_classes.BlockClasses.digits_at.Goals as goal

pub digits_with-requires : goal.digits_with-requires
digits_with-requires c =
    let block = c.args.self.now in
    let at = spot_in_block block.family c.args.spot.run c.args.spot.local block refl c.requires.run c.requires.local in
    record { on_board = at.on_board_has; choices = block.chosen; digits = c.digits_of-run.ensures; run = at.run_below; local = at.local_below }
