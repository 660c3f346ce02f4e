-- What is cut is a run of the items, and so is what is left.
use Rattle.dob_update.proofs.Common.{◌++◌, ◌+◌, ◌∙◌, ◌≡◌, ◌≢◌, BatchView, IsCut, List, OutboxState, OutboxView, PartView, [], ap, arith, count_for, front, items_of_parts, on_err}
use Rattle.dob_update.proofs.Common.{queued, refl, rules, settlements_of, skip_after, subst, sym, take, ℕ}
use Rattle.dob_update.proofs.Cuts.{IsCutting, parts_within, classes_within, still_listed, none_there, some_there, run_taken, is_cut}
use Rattle.dob_update.proofs.outbox.Outbox.cut.Goals as goal
use Rattle.dob_update.proofs.outbox.Outbox.cut.Goals.{After-min-taken, After-drop_front}

cutting : (c : After-min-taken) →
    IsCutting c.self.inside.family c.self.inside.nodes c.self.inside.to c.self.inside.queue.parts c.self.inside.skip c.self.inside.queue.classes c.args.size c.min-taken.result
cutting c = record { listed = c.self.invariant; least = search rules }

-- where some are cut, some are there
some : (c : After-min-taken) → c.min-taken.result ≢ 0 → c.args.self.now.sends.items ≢ []
some c taken none = some_there (cutting c) taken (subst (λ (o : OutboxState). o.sends.items ≡ []) (sym c.self.view_is) none)

pub push_front-left-requires-clause-whole : goal.push_front-left-requires-clause-whole
push_front-left-requires-clause-whole c =
    let old = c.self.inside in (count_for old.family old.nodes old.to, rw c.parts.ensures.value c.self.invariant.rest.parts_fit)

pub push_front-left-requires-clause-within : goal.push_front-left-requires-clause-within
push_front-left-requires-clause-within c = rw c.parts.ensures.value (parts_within (cutting (goal.at.push_front-left-requires-clause-within c).After-min-taken))

-- the parts and classes that are moved
moved : (c : After-drop_front) → c.push_front-left.new.list.items ≡ front c.min-taken.result c.self.inside.queue.parts
moved c =
    let none : c.in_ok-parts.parts.items ≡ [] = search rules in
    c.push_front-left.ensures.moved ∙ ap (λ (ps : List PartView). ps ++ front c.min-taken.result c.parts.result.now) none
    ∙ ap (front c.min-taken.result) c.parts.ensures.value

listed : (c : After-drop_front) → c.push_first.new.list.items ≡ take c.min-taken.result c.self.inside.queue.classes
listed c =
    let none : c.in_ok-classes.classes.items ≡ [] = search rules in
    c.push_first.ensures ∙ ap (λ (xs : List ℕ). xs ++ take c.min-taken.result c.classes.result.now) none ∙ ap (take c.min-taken.result) c.classes.ensures

skip_is : (c : After-drop_front) → c.push_front-left.result ≡ skip_after c.self.inside.skip c.min-taken.result c.self.inside.queue.parts
skip_is c = c.push_front-left.ensures.skip ∙ ap (skip_after c.self.inside.skip c.min-taken.result) c.parts.ensures.value

pub push_first-requires-clause-within : goal.push_first-requires-clause-within
push_first-requires-clause-within c = rw c.classes.ensures (classes_within (cutting (goal.at.push_first-requires-clause-within c).After-min-taken))

pub drop_front-requires : goal.drop_front-requires
drop_front-requires c =
    let within = classes_within (cutting (goal.at.drop_front-requires c).After-min-taken) in
    let items = c.len.ensures.items in
    let classes = c.len.ensures.classes in
    omega (arith, within, items, classes)

pub invariant_of-batch : goal.invariant_of-batch
invariant_of-batch c =
    let back = goal.at.invariant_of-batch c in
    run_taken (cutting back.After-min-taken) c.push_front-left.new.list.items c.push_first.new.list.items (moved back.After-drop_front)
    (listed back.After-drop_front) c.if-taken-eq0.false

pub invariant_of-self : goal.invariant_of-self
invariant_of-self c = rw (c.drop_front.ensures.parts, skip_is (goal.at.invariant_of-self c).After-drop_front, c.drop_front.ensures.classes)
    (still_listed (cutting (goal.at.invariant_of-self c).After-min-taken))

pub returns-clause-batch : goal.returns-clause-batch
returns-clause-batch c =
    let at = (goal.at.returns-clause-batch c).After-drop_front in
    let old = c.self.inside in
    let queue = c.drop_front.new.self in
    let view : OutboxView = record { family = old.family; n = old.nodes; from = old.from; to = old.to; settlements = settlements_of old.queue.parts; skip = old.skip; items = queued old.queue; next = old.next } in
    let new : OutboxView = record view { settlements = settlements_of queue.parts; skip = c.push_front-left.result; items = queued queue; next = old.next + 1 } in
    let batch : BatchView = record {
      family = old.family;
      n = old.nodes;
      from = old.from;
      to = old.to;
      number = old.next;
      settlements = settlements_of c.push_front-left.new.list.items;
      skip = old.skip;
      items = items_of_parts c.push_front-left.new.list.items c.push_first.new.list.items;
    } in
    subst (λ (o : OutboxState). IsCut o.sends c.args.size batch new) c.self.view_is
    (is_cut (cutting (goal.at.returns-clause-batch c).After-min-taken) c.push_front-left.new.list.items c.push_first.new.list.items (moved at)
    (listed at) old.from old.next c.push_front-left.result queue.parts queue.classes c.drop_front.ensures.parts (skip_is at) c.drop_front.ensures.classes)

pub returns-then-taken-eq0-clause-none : goal.returns-then-taken-eq0-clause-none
returns-then-taken-eq0-clause-none c = (
  λ _. subst (λ (o : OutboxState). o.sends.items ≡ []) c.self.view_is
      (none_there (cutting (goal.at.returns-then-taken-eq0-clause-none c).After-min-taken) (let some = c.get.ensures.size.0 in omega (arith, some)) c.if-taken-eq0.true),
  λ _. search rules,
)

pub returns-clause-none : goal.returns-clause-none
returns-clause-none c = (λ is. cc, λ none. absurd (some (goal.at.returns-clause-none c).After-min-taken c.if-taken-eq0.false none))

pub returns-in_err-parts-clause-err : goal.returns-in_err-parts-clause-err
returns-in_err-parts-clause-err c =
    on_err c.from_residual.result (refl, some (goal.at.returns-in_err-parts-clause-err c).After-min-taken c.if-taken-eq0.false)

pub returns-in_err-classes-clause-err : goal.returns-in_err-classes-clause-err
returns-in_err-classes-clause-err c =
    on_err c.from_residual-in_err-classes.result (refl, some (goal.at.returns-in_err-classes-clause-err c).After-min-taken c.if-taken-eq0.false)
