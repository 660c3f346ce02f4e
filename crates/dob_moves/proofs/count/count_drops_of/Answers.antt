-- A kind in hand has a drop on each empty square, any other none.
use Rattle.dob_moves.proofs.Common.{◌∙◌, ◌≡◌, ap, arith, length, sym, counted_items, held, Hand}
use Rattle.dob_moves.proofs.Listed.{can_put, drops_all, drops_none, puts_counting, puts_on}
use Rattle.dob_moves.proofs.count.count_drops_of.Goals as goal

pub returns-then-count-eq0-clause-number : goal.returns-then-count-eq0-clause-number
returns-then-count-eq0-clause-number c = λ setup empty hand_is.
    let same : held c.args.hand c.args.kind ≡ held setup.hands.mover c.args.kind = ap (λ (hand : Hand). held hand c.args.kind) hand_is in
    sym (ap length (drops_none c.args.profile setup c.args.kind (omega (arith, same))))

pub returns-clause-number : goal.returns-clause-number
returns-clause-number c = λ setup empty hand_is.
    let same : held c.args.hand c.args.kind ≡ held setup.hands.mover c.args.kind = ap (λ (hand : Hand). held hand c.args.kind) hand_is in
    c.count-2.ensures.number
    ∙ counted_items (can_put c.args.profile setup c.args.kind) (puts_on c.args.profile setup c.args.kind) _ (puts_counting c.args.profile setup c.args.kind)
    (c.and.ensures _ _ empty c.squares_for.ensures)
    ∙ sym (ap length (drops_all c.args.profile setup c.args.kind (omega (arith, same))))
