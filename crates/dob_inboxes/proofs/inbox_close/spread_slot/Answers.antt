-- The next place gets what the slot has of that sender.
use Rattle.dob_inboxes.proofs.Common.{◌∙◌, arith, refl, rules}
use Rattle.dob_inboxes.proofs.Rowed.{row_grows}
use Rattle.dob_inboxes.proofs.inbox_close.spread_slot.Goals as goal

pub loop-from-init : goal.loop-from-init
loop-from-init c = (search rules, λ k low. refl)

pub loop-from-preserved : goal.loop-from-preserved
loop-from-preserved c =
    let inv = c.loop-from.invariant in
    let from = c.loop-from.from in (
      c.in_ok-push.ensures.items ∙ row_grows from c.args.slot c.loop-from.slots.items c.take_of.result inv.0 (c.take_of.ensures.taken ∙ inv.1 from (omega arith)),
      λ k low. c.take_of.ensures.others k (λ same. absurd (omega (arith, same, low))) ∙ inv.1 k (omega (arith, low)),
    )
