-- A move is there where the steps and drops are not none.
use Rattle.std.proofs.lemmas.Bool.{not-true, not_from_false, eqb-false, ne_eqb}
use Rattle.dob_moves.proofs.Shown.{setup_on}
use Rattle.dob_moves.proofs.Verdicts.{some_move, no_moves}
use Rattle.dob_moves.proofs.count.has_move.Goals as goal

pub returns : goal.returns
returns c =
    let p = setup_on c.args.position.now.board in
    let steps = c.count_steps.ensures.number p c.args.position.now.shows in
    let drops = c.count_drops.ensures.number p c.args.position.now.shows in (
      λ h. some_move p _ _ steps drops (λ e. eqb-false _ 0 (not-true _ h) e),
      λ w. not_from_false _ (ne_eqb _ 0 (λ none. no_moves p _ _ c.args.position.now.legal.squares steps drops none w)),
    )
