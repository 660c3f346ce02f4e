-- What stands after a move is a position of the same family, and the only one to which the move goes.
use Rattle.dob_value.proofs.Common.{◌∙◌, sym, goes_there, status_there, Open}
use Rattle.dob_moves.proofs.ByProfile.{can_go}
use Rattle.dob_moves.proofs.ProfileMoves.{Goes-is}
use Rattle.dob_value.proofs.Successors.{moves_keep_the_family}
use Rattle.dob_value.proofs.outcomes.outcome_of.Goals as goal

pub apply-requires-clause-open : goal.apply-requires-clause-open
apply-requires-clause-open c = status_there c.args.family.profile c.args.position.now.setup Open c.args.position.now.legal c.requires.played.0

pub apply-requires-clause-can_go : goal.apply-requires-clause-can_go
apply-requires-clause-can_go c = can_go c.args.family.profile c.args.position.now.setup c.args.played c.requires.played.1

pub returns : goal.returns
returns c =
    let family = c.args.family in
    let setup = c.args.position.now.setup in
    let next = c.apply.result.setup in
    let there = goes_there family.profile setup c.args.played next c.requires.played.1 c.apply.ensures in
    record {
      member = moves_keep_the_family family setup c.args.played next c.requires.member c.requires.played.0 there;
      goes = there;
      alone = λ q by. Goes-is family.profile setup c.args.played next there ∙ sym (Goes-is family.profile setup c.args.played q by);
    }
