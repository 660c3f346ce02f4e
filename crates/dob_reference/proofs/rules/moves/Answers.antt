-- The steps and then the drops are the moves of an open position, and no other position has any.
use Rattle.std.proofs.Common.{rules}
use Rattle.dob_moves.proofs.Verdicts.{open_answer, other_answer}
use Rattle.dob_reference.proofs.rules.moves.Goals as goal

pub returns-in_ok-push_drops-in-Open : goal.returns-in_ok-push_drops-in-Open
returns-in_ok-push_drops-in-Open c =
    open_answer c.args.profile c.args.position.now.setup c.args.position.now.legal.squares c.in-Open.ensures
    c.new-moves.result.items c.push_steps.new.moves.items c.push_drops.new.moves.items
    c.new-moves.ensures.items (search rules) (search rules)

pub returns-in_default : goal.returns-in_default
returns-in_default c =
    other_answer c.args.profile c.args.position.now.setup c.status.result c.status.ensures c.in_default.not-Open c.new-moves.result.items c.new-moves.ensures.items
