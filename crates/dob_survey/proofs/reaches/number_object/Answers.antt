-- The fields in order.
use Rattle.dob_survey.proofs.Common.{◌-◌, ◌≡◌, arith, length}
use Rattle.dob_survey.proofs.reaches.number_object.Goals as goal

pub returns : goal.returns
returns c =
    let reached = c.args.reached.now in
    let depth : c.depth-depth.result ≡ length reached.levels.items - 1 = omega (arith, c.depth-depth.ensures) in
    rw (depth, c.in_ok-values.ensures) at c.in_ok-format.ensures.ok
