-- A step is found, or else a drop, or there is no move.
use Rattle.dob_reference.proofs.Searches.{drop_answer, step_answer}
use Rattle.dob_reference.proofs.rules.finds_move.Goals as goal

pub returns-then-is_some : goal.returns-then-is_some
returns-then-is_some c =
    step_answer c.args.position.now.setup c.is_some.result c.first_step.result c.first_step.ensures (cc) (cc)

pub returns-else-is_some : goal.returns-else-is_some
returns-else-is_some c =
    drop_answer c.args.position.now.setup c.is_some-else-is_some.result c.first_step.result c.first_drop.result
    c.args.position.now.legal.squares c.first_step.ensures (cc) c.first_drop.ensures (cc)
