-- The class of what comes after the move.
use Rattle.dob_moves.specs.Shown.{setup_on}
use Rattle.dob_value.proofs.outcomes.class_after.Goals as goal

pub class_of-requires : goal.class_of-requires
class_of-requires c = (c.outcome_at-outcome.ensures.outcome c.requires.walk.0 c.requires.walk.1 c.requires.walk.2).member

pub returns-clause-class : goal.returns-clause-class
returns-clause-class c = λ p member is. (
  c.outcome_at-outcome.result.played,
  setup_on c.outcome_at-outcome.result.position.board,
  c.outcome_at-outcome.ensures.played,
  c.outcome_at-outcome.ensures.outcome p member is,
  c.class_of.ensures.class,
)
