-- The outbox there has one settlement more.
use Rattle.dob_node.proofs.Common.{◌<◌, ◌∙◌, ◌≡◌, OutboxState, added, ap, get_or, get_or_default, items_of, length, predecessors, rules, subst, sym, ℕ}
use Rattle.std.proofs.Common.{◌≤◌, vec_len}
use Rattle.dob_node.proofs.outboxes.add_to.Goals as goal

pub returns : goal.returns
returns c = (
  c.add_targets.new.self,
  search rules,
  λ default.
      let outboxes = c.args.outboxes.now in
      let read = c.index_mut-outbox.result.now in
      let s = c.args.news.now in
      let targets = c.args.targets.now in
      let low : c.args.to < length outboxes.items = search rules in
      let is : read ≡ get_or outboxes.items c.args.to default
      = c.index_mut-outbox.ensures.value ∙ get_or_default outboxes.items c.args.to read default low in
      let of = subst (λ (o : OutboxState). (o.sends.n ≡ vec_len outboxes) × (o.sends.to ≡ c.args.to) × (targets ≡ predecessors o.sends.family s.class) × (length targets ≤ o.room))
      (sym c.index_mut-outbox.ensures.value) (c.requires.of read) in
      subst (λ (o : OutboxState). c.add_targets.new.self.sends ≡ added o.sends s (items_of (λ _. targets) (vec_len outboxes) c.args.to s)) is
      (c.add_targets.ensures ∙ ap (λ (n : ℕ). added read.sends s (items_of (λ _. targets) n read.sends.to s)) of.0
      ∙ ap (λ (to : ℕ). added read.sends s (items_of (λ _. targets) (vec_len outboxes) to s)) of.1),
)
