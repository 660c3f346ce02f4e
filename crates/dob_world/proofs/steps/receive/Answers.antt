-- The lane's first batch is one for the node, which takes and lists its items, or stops at one of them.
use Rattle.dob_world.proofs.Common.{◌++◌, ◌∙◌, ◌∷◌, All, All-head, BatchView, IsBatchTo, ap, arith, before_since, length, length-append, link_of, refl, rules}
use Rattle.dob_world.proofs.Common.{subst, sym, take, taken_since}
use Rattle.dob_world.proofs.Firsts.{front_is}
use Rattle.dob_world.proofs.steps.receive.Goals as goal

pub apply_batch-requires : goal.apply_batch-requires
apply_batch-requires c =
    let P = λ (b : BatchView). IsBatchTo c.args.node.now.family c.args.node.now.n c.args.node.now.id b in
    let first = All-head P c.in-Some-next.batch c.next.new.self.waiting (subst (λ xs. All P xs) c.in-Some-next.ensures.some c.requires.batches) in
    let same = c.reserve-2.ensures.step.unchanged.same in
    record {
      sound = search rules;
      family = first.of.0 ∙ sym same.0;
      n = first.of.1 ∙ sym same.2;
      going = search rules;
    }

pub list_first-requires-clause-within : goal.list_first-requires-clause-within
list_first-requires-clause-within c =
    let before = before_since c.in-Some-next.batch.items c.args.node.now c.reserve-2.new.self c.apply_batch.new.self c.in-Err.cause
    c.reserve-2.ensures.step.unchanged c.in-Err.ensures.step.before in
    let counted = before.counted ∙ sym c.taken.ensures in
    let few = ap length before.items_are ∙ length-append before.front (before.item ∷ before.behind) in
    omega (arith, few, counted)

pub returns-in-Err-clause-front : goal.returns-in-Err-clause-front
returns-in-Err-clause-front c = λ other.
    let batch = c.in-Some-next.batch in
    let before = before_since batch.items c.args.node.now c.reserve-2.new.self c.apply_batch.new.self c.in-Err.cause c.reserve-2.ensures.step.unchanged
    c.in-Err.ensures.step.before in
    record {
      batch = batch;
      first = ap (λ w. link_of w c.args.lane.now.link.capacity) c.in-Some-next.ensures.some
          ∙ ap (λ k. link_of (batch ∷ c.next.new.self.waiting) k) (sym c.next.ensures.capacity);
      taken = before;
      listed = c.list_first.ensures
          ∙ ap (λ xs. xs ++ take c.taken.result batch.items) c.in_ok-reserve.ensures.items
          ∙ ap (λ xs. c.args.lane.now.applied.items ++ xs) (front_is batch.items before.front before.behind before.item c.taken.result
          before.items_are (before.counted ∙ sym c.taken.ensures));
      same = refl;
    }

pub returns-clause-received : goal.returns-clause-received
returns-clause-received c = λ e. record {
  batch = c.in-Some-next.batch;
  first = ap (λ w. link_of w c.args.lane.now.link.capacity) c.in-Some-next.ensures.some
      ∙ ap (λ k. link_of (c.in-Some-next.batch ∷ c.next.new.self.waiting) k) (sym c.next.ensures.capacity);
  taken = taken_since c.in-Some-next.batch.items c.args.node.now c.reserve-2.new.self c.apply_batch.new.self c.reserve-2.ensures.step.unchanged
      c.in-Ok.ensures.step.taken;
  listed = c.list_items.ensures ∙ ap (λ xs. xs ++ c.in-Some-next.batch.items) c.in_ok-reserve.ensures.items;
  same = refl;
}
