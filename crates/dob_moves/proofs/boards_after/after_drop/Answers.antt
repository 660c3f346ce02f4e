-- The piece has arrived from the hand.
use Rattle.dob_moves.proofs.Common.{◌<◌, rules, length-turned, subst, sym, turned, dropped, held, Hand}
use Rattle.dob_moves.proofs.Arrivals.{drop_arrived, hands_after_drop, hand_seen}
use Rattle.dob_moves.proofs.boards_after.after_drop.Goals as goal
use Rattle.dob_moves.specs.Arrivals.{HasArrived}

pub with_one_less-requires : goal.with_one_less-requires
with_one_less-requires c = subst (λ (hand : Hand). 0 < held hand c.args.kind) (sym (hand_seen c.requires.0 _ c.requires.2.hands_are)) c.requires.3

pub returns : goal.returns
returns c = λ p legal are.
    let low : c.args.to < 12 = search rules in
    let after = turned (dropped p c.args.kind c.args.to) in
    let arrived : HasArrived (turned p) after c.turned.result c.on_board.result =
    rw (c.turned.ensures, c.on_board.ensures) (drop_arrived p c.args.kind c.args.to legal.squares low) in
    c.with_arrived.ensures (turned p) after (length-turned p) arrived
    (hands_after_drop p c.args.kind c.args.to _ _ are.hands_are c.with_one_less.ensures) are
