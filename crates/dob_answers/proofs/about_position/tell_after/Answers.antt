-- The move at a number below the list's length is one of the position's moves.
use Rattle.std.proofs.Common.{sym, arith}
use Rattle.dob_moves.specs.declared.position_status.Status.TheVariants.{Open}
use Rattle.dob_moves.proofs.ByProfile.{can_go}
use Rattle.dob_moves.proofs.Shared.{share_status}
use Rattle.dob_answers.proofs.about_position.tell_after.Goals as goal

pub apply-after-requires-clause-open : goal.apply-after-requires-clause-open
apply-after-requires-clause-open c =
    (share_status c.args.profile c.args.position.now.setup Open c.args.position.now.legal).1
    (c.in_ok-legal.ensures.sound c.index.result.now (c.args.number, omega (arith, c.in_ok-legal.legal.ok.0), sym c.index.ensures)).0

pub apply-after-requires-clause-can_go : goal.apply-after-requires-clause-can_go
apply-after-requires-clause-can_go c =
    can_go c.args.profile c.args.position.now.setup c.index.result.now
    (c.in_ok-legal.ensures.sound c.index.result.now (c.args.number, omega (arith, c.in_ok-legal.legal.ok.0), sym c.index.ensures)).1
