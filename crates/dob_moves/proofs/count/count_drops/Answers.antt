-- The drops of each kind, from the hand that the board has.
use Rattle.dob_moves.proofs.Common.{ap, arith, length-append, Hands, Move, all_drops}
use Rattle.dob_moves.proofs.count.count_drops.Goals as goal

pub returns-clause-number : goal.returns-clause-number
unfolding all_drops
returns-clause-number c = λ setup are.
    let empty = c.empty-empty.ensures setup are in
    let hand = ap (λ (hands : Hands). hands.mover) are.hands_are in
    let chicks = c.count_drops_of.ensures.number setup empty hand in
    let elephants = c.count_drops_of-2.ensures.number setup empty hand in
    let giraffes = c.count_drops_of-3.ensures.number setup empty hand in
    omega (arith, chicks, elephants, giraffes, length-append {A = Move})
