-- The board shows the representative of the class.
use Rattle.dob_history.proofs.Common.{◌∙◌, HasStatus, Setup, ap, length, moves_of, subst}
use Rattle.dob_history.proofs.openings.opening_in.Goals as goal

pub returns : goal.returns
returns c =
    let profile = c.args.classes.now.family.profile in
    let told = c.status_and_count-status.ensures in
    let setup = c.representative_of-position.ensures.setup in
    record {
      status = subst (λ (p : Setup). HasStatus profile p c.status_and_count-status.result.0) setup told.status;
      moves = told.count ∙ ap (λ (p : Setup). length (moves_of profile p)) setup;
    }
