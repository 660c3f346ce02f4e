-- by the way
use Rattle.dob_unmove.proofs.Common.{◌<◌, subst, sym, held, Hands, IsBoardOf, CanUndo, earlier, RetroMove}
use Rattle.dob_unmove.proofs.Undone.{few_held}
use Rattle.dob_unmove.proofs.bits_before.bits_before.Goals as goal

pub bits_before_step-requires : goal.bits_before_step-requires
bits_before_step-requires c = (c.requires.0, subst (CanUndo c.requires.0) c.in-Unstep.is c.requires.1, c.requires.2, c.requires.4)

pub returns-in-Unstep : goal.returns-in-Unstep
returns-in-Unstep c = λ after can twelve are.
    subst (λ (u : RetroMove). IsBoardOf (earlier after u) c.bits_before_step.result) (sym c.in-Unstep.is)
    (c.bits_before_step.ensures after (subst (CanUndo after) c.in-Unstep.is can) twelve are)

pub bits_before_put-requires : goal.bits_before_put-requires
bits_before_put-requires c =
    subst (λ (hs : Hands). held hs.mover c.in-Unput.kind < 255) (sym c.requires.4.hands_are) (few_held c.requires.0 c.in-Unput.kind c.requires.3)

pub returns-in-Unput : goal.returns-in-Unput
returns-in-Unput c = λ after can twelve are.
    subst (λ (u : RetroMove). IsBoardOf (earlier after u) c.bits_before_put.result) (sym c.in-Unput.is)
    (c.bits_before_put.ensures after (subst (CanUndo after) c.in-Unput.is can) twelve are)
