-- The lion can be caught where some piece attacks it.
use Rattle.dob_moves.proofs.Common.{◌∙◌, false_from_ne_true, not-true, not_from_false, sym, true≢false}
use Rattle.dob_moves.proofs.Masked.{no_attack, some_attack}
use Rattle.dob_moves.proofs.Shown.{setup_on}
use Rattle.dob_moves.proofs.status_of.can_catch.Goals as goal

pub returns : goal.returns
returns c = λ stands.
    let p = setup_on c.args.position.now.board in
    let legal = c.args.position.now.legal in
    let attack = c.attackers.ensures p c.args.position.now.shows in
    let mask = c.attackers.result in (
      λ h. some_attack p c.args.lion mask stands attack (λ e. true≢false (sym (c.is_empty.ensures.1 e) ∙ not-true _ h)),
      λ catch. not_from_false _
          (false_from_ne_true _ (λ is. no_attack p c.args.lion mask legal.squares legal.lions stands attack (c.is_empty.ensures.0 is) catch)),
    )
