-- The classes before the position's run, and those before its place.
use Rattle.dob_index.proofs.Common.{arith, blocks_small, IsAt, are_before, stands_at}
use Rattle.dob_index.proofs.look_up.classes_before.Goals.{After-spot_of-block}
use Rattle.dob_index.proofs.look_up.classes_before.Goals as goal

at : (c : After-spot_of-block)
    → IsAt c.args.family c.args.position.now.setup c.spot_of-block.result.0 c.spot_of-block.result.1.run c.spot_of-block.result.1.local
at c =
    stands_at c.args.family c.args.position.now.setup c.spot_of-block.result.0 c.spot_of-block.result.1.run c.spot_of-block.result.1.local c.requires
    c.spot_of-block.ensures.block c.spot_of-block.ensures.run c.spot_of-block.ensures.local

pub row_of-requires : goal.row_of-requires
row_of-requires c = omega (arith, (at (goal.at.row_of-requires c).After-spot_of-block).in_run.block_below, blocks_small c.args.family.set)

pub before_place-places-requires : goal.before_place-places-requires
before_place-places-requires c =
    let there = (at (goal.at.before_place-places-requires c).After-spot_of-block).in_run in
    record { block = there.block_below; run = there.run_below; place = there.local_below }

pub returns : goal.returns
returns c = λ is.
    let family = c.args.family in
    let block = c.spot_of-block.result.0 in
    let there = at (goal.at.returns c).After-spot_of-block in
    let below = there.in_run.run_below in
    let whole = are_before family c.args.position.now.setup block c.spot_of-block.result.1.run c.spot_of-block.result.1.local
    c.before_run-runs.result c.before_place-places.result there
    (c.before_run-runs.ensures family block there.in_run.block_below (omega (arith, below)) (c.row_of.ensures family there.in_run.block_below is))
    (c.before_place-places.ensures.right is) in
    omega (arith, whole.few, whole.sum_is)
