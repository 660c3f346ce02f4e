-- What is caught is the enemy's, who sees it as its own.
use Rattle.dob_moves.proofs.Common.{◌<◌, ◌∙◌, arith, rules, subst, sym, turned, held, Bool, Hand}
use Rattle.dob_moves.specs.Arrivals.{Met}
use Rattle.dob_moves.proofs.Arrivals.{caught_hand, caught_none, caught_seen, hand_seen}
use Rattle.dob_moves.proofs.Outcomes.{held_few}
use Rattle.dob_moves.proofs.boards_after.with_caught.Goals as goal

pub with_taken-requires : goal.with_taken-requires
with_taken-requires c = λ taken.
    let few = held_few c.requires.0 c.requires.1 taken in
    subst (λ (hand : Hand). held hand taken < 255) (sym (hand_seen c.requires.0 _ c.requires.2.hands_are)) (omega (arith, few))

pub returns-then-catch : goal.returns-then-catch
returns-then-catch c = λ p legal are met.
    let low : c.args.to < 12 = search rules in
    let there = caught_seen p c.args.to c.turned.result c.own_kind.result low c.turned.ensures
    (subst (λ (catch : Bool). Met p c.args.to catch) c.if-catch.true met) (c.own_kind.ensures (turned p) are) in
    c.with_taken.ensures ∙ caught_hand p c.args.to _ c.own_kind.result (hand_seen p _ are.hands_are) there

pub returns-else-catch : goal.returns-else-catch
returns-else-catch c = λ p legal are met.
    hand_seen p _ are.hands_are ∙ caught_none p c.args.to (subst (λ (catch : Bool). Met p c.args.to catch) c.if-catch.false met)
