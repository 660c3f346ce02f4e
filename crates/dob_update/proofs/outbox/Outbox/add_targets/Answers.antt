-- One settlement more, with the classes of its items.
use Rattle.dob_update.proofs.Common.{◌<◌, ◌==◌, ◌^◌, ◌∙◌, ◌≡◌, List, OutboxState, added, ap, arith, filter, item_for, items_of, length, map, owner_of, predecessors, rules, subst, sym, ℕ}
use Rattle.std.proofs.lemmas.List.Sums.{count_by-le-length, length-filter}
use Rattle.dob_update.proofs.Grown.{IsGrown, is_grown}
use Rattle.dob_update.proofs.outbox.Outbox.add_targets.Goals as goal
use Rattle.dob_update.proofs.outbox.Outbox.add_targets.Goals.{After-add_owned}

grown : (c : After-add_owned) → IsGrown c.self.inside.family c.self.inside.nodes c.self.inside.to c.self.inside.skip c.self.inside.queue.parts
    c.add_owned.new.self.parts c.self.inside.queue.classes c.add_owned.new.self.classes c.args.news.now
    (map (item_for c.args.news.now) (filter (λ class. owner_of c.self.inside.nodes class == c.self.inside.to) c.args.targets.now))
grown c =
    let old = c.self.inside in
    let s = c.args.news.now in
    let is_owned = λ (class : ℕ). owner_of old.nodes class == old.to in
    let targets_are : c.args.targets.now ≡ predecessors old.family s.class
    = subst (λ (o : OutboxState). c.args.targets.now ≡ predecessors o.sends.family s.class) (sym c.self.view_is) c.requires.targets in
    let low : length c.args.targets.now < 2 ^ 64 = search rules in
    is_grown old.family old.nodes old.to old.skip old.queue.parts c.add_owned.new.self.parts old.queue.classes c.add_owned.new.self.classes s
    (filter is_owned c.args.targets.now) c.self.invariant
    (omega (arith, length-filter is_owned c.args.targets.now, count_by-le-length is_owned c.args.targets.now, low))
    (ap (λ (classes : List ℕ). filter is_owned classes) targets_are) c.add_owned.ensures.parts c.add_owned.ensures.classes

pub invariant_of-self : goal.invariant_of-self
invariant_of-self c = (grown (goal.at.invariant_of-self c).After-add_owned).listed

pub returns : goal.returns
returns c = (grown (goal.at.returns c).After-add_owned).is_added c.self.inside.from c.self.inside.next
    ∙ ap (λ (o : OutboxState). added o.sends c.args.news.now (items_of (λ _. c.args.targets.now) o.sends.n o.sends.to c.args.news.now)) c.self.view_is
