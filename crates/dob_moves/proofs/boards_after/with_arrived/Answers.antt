-- The square is cleared, the hands change, and the piece is one more.
use Rattle.dob_moves.proofs.Common.{◌<◌, None, arith, rules, sym, get_or-set_same}
use Rattle.dob_pieces.proofs.BoardChanges.{with_cell, with_hands, with_one}
use Rattle.dob_moves.proofs.Arrivals.{arrived_on}
use Rattle.dob_moves.proofs.boards_after.with_arrived.Goals as goal

pub returns : goal.returns
returns c = λ before after twelve arrived hands are.
    let to = c.args.to in
    let low : c.args.to < 12 = search rules in
    let gone = c.without.ensures before (with_cell before to None) (with_one before to None twelve low) are in
    let given = with_hands (with_cell before to None) c.without.result after.hands c.args.hands (sym hands) gone in
    c.with_enemy.ensures (record (with_cell before to None) { hands = after.hands }) after
    (get_or-set_same before.board to None None (omega (arith, twelve, low))) (arrived_on before after to c.args.kind twelve low arrived) given
