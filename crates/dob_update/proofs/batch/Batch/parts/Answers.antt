-- The items are those of the parts, each of which has one.
use Rattle.dob_update.proofs.Common.{◌∙◌, ◌≡◌, All, BatchView, HasItem, List, PartView, ap, count_for, items_in_all, items_of_parts, length, map, subst, sym}
use Rattle.dob_update.proofs.Common.{target_of, targets_of_parts, ℕ}
use Rattle.dob_update.proofs.Runs.{parts_have}
use Rattle.dob_update.proofs.batch.Batch.parts.Goals as goal

pub returns-clause-total : goal.returns-clause-total
returns-clause-total c =
    subst (λ (b : BatchView). items_in_all c.deref.result.now ≡ length b.items) c.self.view_is
    (ap items_in_all c.deref.ensures.value ∙ c.self.invariant.run.counted)

pub returns-clause-some : goal.returns-clause-some
returns-clause-some c =
    let b = c.self.inside in
    subst (λ (ps : List PartView). All HasItem ps) (sym c.deref.ensures.value)
    (parts_have (count_for b.family b.n b.to) b.skip b.parts.items c.self.invariant.run.parts_fit)

pub returns-clause-items : goal.returns-clause-items
returns-clause-items c =
    let inside = c.self.inside in
    let items = items_of_parts inside.parts.items inside.classes.items in
    let again = targets_of_parts inside.parts.items inside.classes.items c.self.invariant.counted in
    subst (λ (b : BatchView). items_of_parts c.deref.result.now (map target_of b.items) ≡ b.items) c.self.view_is
    (ap (λ (ps : List PartView). items_of_parts ps (map target_of items)) c.deref.ensures.value
    ∙ ap (λ (xs : List ℕ). items_of_parts inside.parts.items xs) again)
