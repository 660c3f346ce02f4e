-- A square to which the lion steps and where a step may end is a move.
use Rattle.dob_moves.proofs.Common.{◌∙◌, not-true, sym, true≢false, Lion}
use Rattle.dob_moves.proofs.Masked.{some_step}
use Rattle.dob_moves.proofs.Shown.{setup_on}
use Rattle.dob_moves.proofs.status_of.lion_can_step.Goals as goal

pub returns : goal.returns
returns c = λ h.
    let p = setup_on c.args.position.now.board in
    let legal = c.args.position.now.legal in
    let are = c.args.position.now.shows in
    some_step p Lion c.own_lion_square.result c.and.result (c.own_lion_square.ensures p (legal.squares, legal.lions) are)
    (c.and.ensures _ _ c.targets-targets.ensures (c.ends.ensures p are)) (λ e. true≢false (sym (c.is_empty.ensures.1 e) ∙ not-true _ h))
