-- The square is cleared, what was caught comes back, and the piece stands where it came from.
use Rattle.dob_unmove.proofs.Common.{subst, sym, Hands, CanGiveBack}
use Rattle.dob_unmove.proofs.BitUndone.{step_undone}
use Rattle.dob_unmove.proofs.bits_before.bits_before_step.Goals as goal

pub without_caught-requires : goal.without_caught-requires
without_caught-requires c =
    subst (λ (hs : Hands). CanGiveBack hs.mover c.args.caught) (sym c.requires.3.hands_are) c.requires.1.in_hand

pub returns : goal.returns
returns c = λ after can twelve are.
    step_undone after c.args.kind c.args.from c.args.to c.args.caught twelve can c.args.board _ _ _ _ are c.without.ensures c.with_caught-given_back.ensures
    c.with_own.ensures
    c.without_caught.ensures
