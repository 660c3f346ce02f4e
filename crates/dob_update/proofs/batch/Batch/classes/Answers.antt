-- The items are for the classes that are listed.
use Rattle.dob_update.proofs.Common.{◌∙◌, ◌≡◌, BatchView, map, subst, sym, target_of, targets_of_parts}
use Rattle.dob_update.proofs.batch.Batch.classes.Goals as goal

pub returns : goal.returns
returns c =
    subst (λ (b : BatchView). c.deref.result.now ≡ map target_of b.items) c.self.view_is
    (c.deref.ensures.value ∙ sym (targets_of_parts c.self.inside.parts.items c.self.inside.classes.items c.self.invariant.counted))
