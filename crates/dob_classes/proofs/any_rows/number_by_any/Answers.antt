-- By the block's row the classes before the run and those before its place, and nothing wraps.
use Rattle.dob_classes.proofs.Common.{arith, subst, sym, ℕ, IsRow}
use Rattle.dob_classes.proofs.Counting.ClassesBefore.{IsAt, stands_at, are_before}
use Rattle.dob_classes.proofs.any_rows.number_by_any.Goals as goal
use Rattle.dob_classes.proofs.any_rows.number_by_any.Goals.{After-spot_of-block}

stands : (c : After-spot_of-block) → IsAt c.args.family c.args.position.now.setup c.spot_of-block.result.0 c.spot_of-block.result.1.run c.spot_of-block.result.1.local
stands c =
    stands_at c.args.family c.args.position.now.setup c.spot_of-block.result.0 c.spot_of-block.result.1.run c.spot_of-block.result.1.local c.requires.member
    c.spot_of-block.ensures.block c.spot_of-block.ensures.run c.spot_of-block.ensures.local

pub classes_in_run-places-requires : goal.classes_in_run-places-requires
classes_in_run-places-requires c =
    let at = (stands (goal.at.classes_in_run-places-requires c).After-spot_of-block).in_run in
    record { block = at.block_below; run = at.run_below; place = (let below = at.local_below in omega (arith, below)) }

pub returns : goal.returns
returns c = λ row.
    let family = c.args.family in
    let block = c.spot_of-block.result.0 in
    let here : IsRow family block c.args.row.now = subst (λ (b : ℕ). IsRow family b c.args.row.now) (sym c.spot_of-block.ensures.block) row in
    let at = stands (goal.at.returns c).After-spot_of-block in
    let below = at.in_run.run_below in
    let whole = are_before family c.args.position.now.setup block c.spot_of-block.result.1.run c.spot_of-block.result.1.local
    c.before_run-runs.result c.classes_in_run-places.result at
    (c.before_run-runs.ensures family block at.in_run.block_below (omega (arith, below)) (c.row_at.ensures family block here))
    c.classes_in_run-places.ensures in
    omega (arith, whole.few, whole.sum_is)
