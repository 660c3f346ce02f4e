-- What the walk comes to is a move of the class's representative.
use Rattle.dob_moves.specs.Shown.{setup_on}
use Rattle.dob_certify.proofs.outcomes.push_outcomes.Goals as goal

pub outcome_at-next-requires-clause-walk : goal.outcome_at-next-requires-clause-walk
outcome_at-next-requires-clause-walk c =
    (setup_on c.representative_of-position.result.board, c.representative_of-position.ensures.represents.0.0, c.start-status.ensures.walk)
