-- The classes before the position's run, and those before its place.
use Rattle.std.proofs.Common.{arith}
use Rattle.dob_classes.proofs.Counting.ClassesBefore.{IsAt, AreBefore, stands_at, are_before}
use Rattle.dob_classes.proofs.class_numbers.classes_before_position.Goals as goal
use Rattle.dob_classes.proofs.class_numbers.classes_before_position.Goals.{After-spot_of-block}

stands : (c : After-spot_of-block) → IsAt c.args.family c.args.position.now.setup c.spot_of-block.result.0 c.spot_of-block.result.1.run c.spot_of-block.result.1.local
stands c =
    stands_at c.args.family c.args.position.now.setup c.spot_of-block.result.0 c.spot_of-block.result.1.run c.spot_of-block.result.1.local c.requires
    c.spot_of-block.ensures.block c.spot_of-block.ensures.run c.spot_of-block.ensures.local

pub classes_before_block-blocks-requires : goal.classes_before_block-blocks-requires
classes_before_block-blocks-requires c =
    let below = (stands (goal.at.classes_before_block-blocks-requires c).After-spot_of-block).in_run.block_below in omega (arith, below)

pub row_of-requires : goal.row_of-requires
row_of-requires c =
    let at = (stands (goal.at.row_of-requires c).After-spot_of-block).in_run in
    record { block = at.block_below; before = c.classes_before_block-blocks.ensures; run = (let below = at.run_below in omega (arith, below)) }

pub classes_in_run-places-requires : goal.classes_in_run-places-requires
classes_in_run-places-requires c =
    let at = (stands (goal.at.classes_in_run-places-requires c).After-spot_of-block).in_run in
    record { block = at.block_below; run = at.run_below; place = (let below = at.local_below in omega (arith, below)) }

whole : (c : goal.After-classes_in_run-places)
    → AreBefore c.args.family c.args.position.now.setup c.before_run-runs.result c.classes_in_run-places.result
whole c =
    let at = stands_at c.args.family c.args.position.now.setup c.spot_of-block.result.0 c.spot_of-block.result.1.run c.spot_of-block.result.1.local c.requires
    c.spot_of-block.ensures.block c.spot_of-block.ensures.run c.spot_of-block.ensures.local in
    let below = at.in_run.run_below in
    are_before c.args.family c.args.position.now.setup c.spot_of-block.result.0 c.spot_of-block.result.1.run c.spot_of-block.result.1.local
    c.before_run-runs.result c.classes_in_run-places.result at
    (c.before_run-runs.ensures c.args.family c.spot_of-block.result.0 at.in_run.block_below (omega (arith, below)) c.row_of.ensures)
    c.classes_in_run-places.ensures

pub overflow_add-result : goal.overflow_add-result
overflow_add-result c = (let few = (whole c).few in omega (arith, few))

pub returns : goal.returns
returns c = (whole c).sum_is
