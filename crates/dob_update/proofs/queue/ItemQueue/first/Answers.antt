-- The first part has one, for the first class.
use Rattle.std.proofs.Common.{None, Option, Some, slice_get}
use Rattle.dob_update.proofs.Common.{◌∙◌, ◌≡◌, Item, List, QueueView, Settlement, ap, item_for, length, queued, refl, rules, subst, sym}
use Rattle.dob_update.proofs.Queues.{first_queued, none_queued}
use Rattle.dob_update.proofs.queue.ItemQueue.first.Goals as goal

pub returns-then-is_empty-clause-item : goal.returns-then-is_empty-clause-item
returns-then-is_empty-clause-item c =
    let empty : length c.self.inside.classes.items ≡ 0 = search rules in
    subst (λ (q : QueueView). ◌≡◌ {A = Option Item} None (slice_get (queued q) 0)) c.self.view_is
    (subst (λ (xs : List Item). ◌≡◌ {A = Option Item} None (slice_get xs 0)) (sym ((none_queued c.self.invariant).1 empty)) refl)

pub returns-clause-item : goal.returns-clause-item
returns-clause-item c =
    subst (λ (q : QueueView). ◌≡◌ {A = Option Item} (Some c.item_for.result) (slice_get (queued q) 0)) c.self.view_is
    (ap Some (c.item_for.ensures ∙ ap (λ (s : Settlement). item_for s c.index-2.result.now) c.settlement.ensures.settlement) ∙ sym (first_queued c.index.result.now c.index-2.result.now c.self.invariant (search rules) (search rules) (search rules)))
