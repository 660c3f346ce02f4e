-- The piece has left a square and arrived on another.
use Rattle.dob_moves.proofs.Common.{◌<◌, ◌∙◌, ◌≡◌, None, arith, length, rules, length-set, length-turned, turned, stepped}
use Rattle.dob_pieces.proofs.BoardChanges.{with_cell, with_one}
use Rattle.dob_moves.specs.Arrivals.{HasArrived}
use Rattle.dob_moves.proofs.Arrivals.{step_arrived, hands_after_step}
use Rattle.dob_moves.proofs.boards_after.after_step.Goals as goal

pub returns : goal.returns
returns c = λ p legal are met.
    let twelve = legal.squares in
    let low_from : c.args.from < 12 = search rules in
    let low_to : c.args.to < 12 = search rules in
    let before = with_cell (turned p) c.turned.result None in
    let after = turned (stepped p c.args.kind c.args.from c.args.to c.args.grows) in
    let long : length before.board ≡ 12 = length-set (turned p).board c.turned.result None ∙ length-turned p in
    let arrived : HasArrived before after c.turned-2.result c.arrives_as.result =
    rw (c.turned.ensures, c.turned-2.ensures, c.arrives_as.ensures) (step_arrived p c.args.kind c.args.from c.args.to c.args.grows twelve low_from low_to) in
    c.with_arrived.ensures before after long arrived
    (hands_after_step p c.args.kind c.args.from c.args.to c.args.grows _ _ are.hands_are (c.with_caught.ensures p legal are met))
    (c.without-left.ensures (turned p) before (with_one (turned p) c.turned.result None (length-turned p) (omega (arith, low_from, c.turned.ensures))) are)
