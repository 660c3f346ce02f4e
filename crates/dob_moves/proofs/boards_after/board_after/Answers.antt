-- Every outcome of the move is what it leaves, turned.
use Rattle.dob_moves.proofs.Common.{subst, CanGo, Move, A, Put, Step}
use Rattle.dob_moves.proofs.Outcomes.{HasOutcome-is, step_parts}
use Rattle.dob_moves.proofs.boards_after.board_after.Goals as goal

pub after_step-requires : goal.after_step-requires
after_step-requires c =
    let p = c.requires.0 in
    let can = subst (λ (m : Move). CanGo A p m) c.in-Step.is c.requires.3 in
    (p, c.requires.1, c.requires.2, (step_parts p c.in-Step.kind c.in-Step.from c.in-Step.to can.0 c.in-Step.catch c.in-Step.grows can.1).met)

pub after_drop-requires : goal.after_drop-requires
after_drop-requires c =
    let p = c.requires.0 in
    (p, c.requires.1, c.requires.2, (subst (λ (m : Move). CanGo A p m) c.in-Put.is c.requires.3).1.in_hand)

pub returns-in-Step : goal.returns-in-Step
returns-in-Step c = λ p q legal are by.
    let goes = rw c.in-Step.is at by in
    rw (HasOutcome-is p (Step c.in-Step.kind c.in-Step.from c.in-Step.to c.in-Step.catch c.in-Step.grows) q goes)
    (c.after_step.ensures p legal are (step_parts p c.in-Step.kind c.in-Step.from c.in-Step.to q c.in-Step.catch c.in-Step.grows goes).met)

pub returns-in-Put : goal.returns-in-Put
returns-in-Put c = λ p q legal are by.
    rw (HasOutcome-is p (Put c.in-Put.kind c.in-Put.to) q (rw c.in-Put.is at by)) (c.after_drop.ensures p legal are)
