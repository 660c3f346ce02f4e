-- One outbox more has the settlement, or is left out.
use Rattle.dob_node.proofs.Common.{◌<◌, ◌∙◌, ◌≡◌, ◌≤◌, OutboxState, OutboxView, added, ap, arith, empty_outbox, get_or, get_or-map, get_or-set_other, items_of}
use Rattle.dob_node.proofs.Common.{length, length-map, length-set, predecessors, refl, sends_of, subst, sym, vec_len}
use Rattle.dob_node.proofs.Sends.{added_none, added_own, added_one, addressed_still, sends_set}
use Rattle.dob_node.proofs.outboxes.add_for_others.Goals.{then-to-from, else-to-from, After-len-nodes}
use Rattle.dob_node.proofs.outboxes.add_for_others.Goals as goal

abbrev sends : OutboxState → OutboxView
sends o = o.sends

count_is : (c : After-len-nodes) → c.len-nodes.result ≡ length (sends_of c.args.outboxes.now.items)
count_is c = c.len-nodes.ensures ∙ c.args.outboxes.now.ok.0 ∙ sym (length-map c.args.outboxes.now.items sends)

pub loop-to-init : goal.loop-to-init
loop-to-init c = record {
  added = added_none c.args.targets.now c.args.news.now c.len-nodes.result c.args.from (sends_of c.args.outboxes.now.items);
  later = λ k default high. refl;
  whole = refl;
}

pub add_to-requires-clause-of : goal.add_to-requires-clause-of
add_to-requires-clause-of c = λ default.
    let at = (goal.at.add_to-requires-clause-of c).After-len-nodes in
    let k = c.loop-to.to in
    let mid = c.loop-to.outboxes in
    let s = c.args.news.now in
    let targets = c.args.targets.now in
    let low : k < length mid.items = omega (arith, c.loop-to-test.true, c.len-nodes.ensures, c.args.outboxes.now.ok.0, c.loop-to.invariant.whole) in
    let of = subst (λ (o : OutboxView). (o.n ≡ vec_len mid) × (o.to ≡ k) × (targets ≡ predecessors o.family s.class)) (get_or-map sends mid.items k default default.sends low)
    (addressed_still c.loop-to.invariant.added (count_is at) (mid.ok.0 ∙ sym (length-map mid.items sends)) c.requires.addressed c.loop-to-test.true default.sends) in
    let room = subst (λ (o : OutboxState). length targets ≤ o.room) (sym (c.loop-to.invariant.later k default (omega arith)))
    (c.requires.room k default (omega (arith, c.loop-to.invariant.whole, low)) c.if-to-from.true) in
    (of.0, of.1, of.2, room)

pub loop-to-preserved : goal.loop-to-preserved
loop-to-preserved c =
    let at = (goal.at.loop-to-preserved c).After-len-nodes in
    let k = c.loop-to.to in
    let mid = c.loop-to.outboxes in
    let s = c.args.news.now in
    let more = items_of (λ _. c.args.targets.now) (vec_len mid) k s in
    let low : k < length mid.items = omega (arith, c.loop-to-test.true, c.len-nodes.ensures, c.args.outboxes.now.ok.0, c.loop-to.invariant.whole) in
    elim c.if-to-from.branch [
      | then-to-from w ↦
          let new = w.add_to.new.outboxes.items in
          let outbox = w.add_to.ensures.0 in
          rw w.outboxes-is (record {
            added = added_one c.loop-to.invariant.added (empty_outbox c.requires.addressed.0 0 0 0) (count_is at) (mid.ok.0 ∙ sym (length-map mid.items sends))
                w.if-to-from.true c.loop-to-test.true (sends_set mid.items new k outbox (λ (o : OutboxView). added o s more) low w.add_to.ensures.1 w.add_to.ensures.2);
            later = λ j default high. ap (λ xs. get_or xs j default) w.add_to.ensures.1
                ∙ get_or-set_other mid.items k j outbox default (λ same. omega (arith, same, high)) ∙ c.loop-to.invariant.later j default (omega (arith, high));
            whole = ap length w.add_to.ensures.1 ∙ length-set mid.items k outbox ∙ c.loop-to.invariant.whole;
          })
      | else-to-from w ↦ rw w.outboxes-is (record {
        added = added_own c.loop-to.invariant.added w.if-to-from.false;
        later = λ j default high. c.loop-to.invariant.later j default (omega (arith, high));
        whole = c.loop-to.invariant.whole;
      })
    ]
