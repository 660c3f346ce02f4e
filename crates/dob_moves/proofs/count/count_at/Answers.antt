-- The steps and drops are the moves of an open position, and no other position has any.
use Rattle.dob_moves.proofs.Common.{subst, HasStatus}
use Rattle.dob_moves.proofs.MoveCounts.{open_count, other_count}
use Rattle.dob_moves.proofs.Shown.{setup_on}
use Rattle.dob_moves.proofs.count.count_at.Goals as goal

pub returns-in-Open : goal.returns-in-Open
returns-in-Open c =
    let p = setup_on c.args.position.now.board in
    let are = c.args.position.now.shows in
    open_count c.args.profile p c.count_steps.result c.count_drops.result c.args.position.now.legal.squares
    (subst (HasStatus c.args.profile p) c.in-Open.is c.requires) (c.count_steps.ensures.number p are) (c.count_drops.ensures.number p are)

pub returns-in_default : goal.returns-in_default
returns-in_default c =
    other_count c.args.profile (setup_on c.args.position.now.board) c.args.status c.args.position.now.legal.squares c.requires c.in_default.not-Open
