-- One settlement more, with its items.
use Rattle.dob_update.proofs.Common.{◌++◌, ◌<◌, ◌==◌, ◌^◌, ◌∙◌, ◌≡◌, Item, List, OutboxState, PartView, Settlement, added, ap, arith, filter, item_for}
use Rattle.dob_update.proofs.Common.{items_of, length, length-map, map, owner_of, predecessors, refl, rules, subst, sym, target_of, with_part, ℕ}
use Rattle.dob_share.proofs.PartItems.{targets_of_items}
use Rattle.dob_update.proofs.Grown.{IsGrown, is_grown}
use Rattle.dob_update.proofs.outbox.Outbox.add.Goals as goal
use Rattle.dob_update.proofs.outbox.Outbox.add.Goals.{After-add}

grown : (c : After-add) → IsGrown c.self.inside.family c.self.inside.nodes c.self.inside.to c.self.inside.skip c.self.inside.queue.parts
    c.add.new.self.parts c.self.inside.queue.classes c.add.new.self.classes c.args.settlement c.args.items.now
grown c =
    let old = c.self.inside in
    let s = c.args.settlement in
    let items = c.args.items.now in
    let owned = filter (λ class. owner_of old.nodes class == old.to) (predecessors old.family s.class) in
    let are : items ≡ map (item_for s) owned
    = subst (λ (o : OutboxState). items ≡ items_of (predecessors o.sends.family) o.sends.n o.sends.to s) (sym c.self.view_is) c.requires in
    let many : length items ≡ length owned = ap length are ∙ length-map owned (item_for s) in
    let low : length items < 2 ^ 64 = search rules in
    let news : c.in-Some.news ≡ s = rw c.in-Some.is at c.of.ensures in
    subst (λ (xs : List Item). IsGrown old.family old.nodes old.to old.skip old.queue.parts c.add.new.self.parts old.queue.classes c.add.new.self.classes s xs) (sym are)
    (is_grown old.family old.nodes old.to old.skip old.queue.parts c.add.new.self.parts old.queue.classes c.add.new.self.classes s owned c.self.invariant
    (omega (arith, low, many)) refl
    (c.add.ensures.parts ∙ ap (λ (t : Settlement). with_part c.reserve.new.self.parts t (length items)) news
    ∙ ap (λ (ps : List PartView). with_part ps s (length items)) c.reserve.ensures.parts ∙ ap (λ (k : ℕ). with_part old.queue.parts s k) many)
    (c.add.ensures.classes ∙ ap (λ (xs : List ℕ). xs ++ map target_of items) c.reserve.ensures.classes
    ∙ ap (λ (xs : List ℕ). old.queue.classes ++ xs) (ap (map target_of) are ∙ targets_of_items s owned)))

pub invariant_of-self-2 : goal.invariant_of-self-2
invariant_of-self-2 c = (grown (goal.at.invariant_of-self-2 c).After-add).listed

pub returns-clause-ok : goal.returns-clause-ok
returns-clause-ok c = (grown (goal.at.returns-clause-ok c).After-add).is_added c.self.inside.from c.self.inside.next
    ∙ ap (λ (o : OutboxState). added o.sends c.args.settlement c.args.items.now) c.self.view_is
