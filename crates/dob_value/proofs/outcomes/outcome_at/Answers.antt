-- What comes after the move is a position of the same family, and the only one to which the move goes.
use Rattle.dob_value.proofs.Common.{◌∙◌, sym}
use Rattle.dob_moves.proofs.ProfileMoves.{Goes-is}
use Rattle.dob_moves.specs.Shown.{setup_on}
use Rattle.dob_value.proofs.Successors.{moves_keep_the_family}
use Rattle.dob_value.proofs.outcomes.outcome_at.Goals as goal

pub outcome-requires-clause-walk : goal.outcome-requires-clause-walk
outcome-requires-clause-walk c = (c.args.family.profile, c.requires.walk.0, c.requires.walk.2)

pub returns-clause-outcome : goal.returns-clause-outcome
returns-clause-outcome c = λ p member is.
    let family = c.args.family in
    let played = c.outcome.result.played in
    let next = setup_on c.outcome.result.position.board in
    let goes = c.outcome.ensures.goes family.profile p is in
    record {
      is_open = goes.0;
      member = moves_keep_the_family family p played next member goes.0 goes.1;
      goes = goes.1;
      alone = λ q by. Goes-is family.profile p played next goes.1 ∙ sym (Goes-is family.profile p played q by);
    }
