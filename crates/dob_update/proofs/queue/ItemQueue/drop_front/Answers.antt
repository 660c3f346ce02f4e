-- Parts and classes lose the same items.
use Rattle.dob_update.proofs.Common.{◌∙◌, ◌≡◌, ◌≤◌, List, PartView, QueueView, ap, ap₂, arith, drop, drop_all, items_of_parts, left_after, length, queued}
use Rattle.dob_update.proofs.Common.{rules, subst, sym}
use Rattle.dob_update.proofs.Queues.{items_after, left_none, many_queued, queued_after}
use Rattle.dob_update.proofs.queue.ItemQueue.drop_front.Goals as goal
use Rattle.dob_update.proofs.queue.ItemQueue.drop_front.Goals.{After-len}

within : (c : After-len) → c.args.k ≤ length c.self.inside.classes.items
within c =
    let many = many_queued c.self.invariant in
    let fits = subst (λ (q : QueueView). c.args.k ≤ length (queued q)) (sym c.self.view_is) c.requires in
    omega (arith, many, fits)

pub drop_parts-requires-clause-within : goal.drop_parts-requires-clause-within
drop_parts-requires-clause-within c =
    let counted = c.self.invariant.counted in
    let low = within (goal.at.drop_parts-requires-clause-within c).After-len in
    omega (arith, counted, low)

pub drop_first-requires : goal.drop_first-requires
drop_first-requires c =
    let low = within (goal.at.drop_first-requires c).After-len in
    let long = c.self.inside.classes.ok.0 in
    omega (arith, low, long)

pub returns-then-k-len-clause-parts : goal.returns-then-k-len-clause-parts
returns-then-k-len-clause-parts c =
    let counted = c.self.invariant.counted in
    let long : c.len.result ≡ length c.self.inside.classes.items = search rules in
    c.clear.ensures.items
    ∙ sym (left_none c.args.k c.self.inside.parts.items c.self.invariant.some (omega (arith, counted, long, c.if-k-len.true)))
    ∙ ap (λ (q : QueueView). left_after c.args.k q.parts) c.self.view_is

pub returns-then-k-len-clause-items : goal.returns-then-k-len-clause-items
returns-then-k-len-clause-items c =
    let many = many_queued c.self.invariant in
    let long : c.len.result ≡ length c.self.inside.classes.items = search rules in
    ap (λ (ps : List PartView). items_of_parts ps c.clear-then-k-len.new.self.items) c.clear.ensures.items
    ∙ sym (drop_all c.args.k (items_of_parts c.self.inside.parts.items c.self.inside.classes.items) (omega (arith, many, long, c.if-k-len.true)))
    ∙ ap (λ (q : QueueView). drop c.args.k (queued q)) c.self.view_is

pub invariant_of-self-2 : goal.invariant_of-self-2
invariant_of-self-2 c =
    rw (c.drop_parts.ensures, c.drop_first.ensures) (queued_after c.args.k c.self.invariant (within (goal.at.invariant_of-self-2 c).After-len))

pub returns-clause-items : goal.returns-clause-items
returns-clause-items c =
    ap₂ items_of_parts c.drop_parts.ensures c.drop_first.ensures ∙ items_after c.args.k c.self.invariant (within (goal.at.returns-clause-items c).After-len)
    ∙ ap (λ (q : QueueView). drop c.args.k (queued q)) c.self.view_is
