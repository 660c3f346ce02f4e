-- One more settlement is expanded, and its items have its values.
use Rattle.dob_node.proofs.Common.{◌∙◌, AreAdded, IsOutboxTo, List, OutboxView, ap, going, length, outbox_in, predecessors, rules, sends_of, subst, sym, ℕ}
use Rattle.dob_node.proofs.Sounds.{next_emitted}
use Rattle.dob_node.proofs.Sends.{sound_expanded}
use Rattle.dob_node.proofs.node_core.Core.expand.Goals as goal

pub add_for_others-requires : goal.add_for_others-requires
add_for_others-requires c = record {
  addressed = (
    c.args.self.now.family,
    c.deref.ensures.value ∙ c.in_ok-targets.ensures.list ∙ ap (λ st. predecessors st c.class.result) c.requires.family ∙ ap (predecessors c.args.self.now.family) c.class.ensures,
    subst (λ (xs : List OutboxView). (to : ℕ) → IsOutboxTo c.args.self.now.family (length xs) c.args.self.now.id to (outbox_in c.args.self.now.family (length xs) c.args.self.now.id xs to))
        (sym c.reserve_for_others.ensures.sends) (rw c.requires.sound.receivers c.requires.sound.addressed),
  );
  room = search rules;
}

pub returns-clause-sound : goal.returns-clause-sound
returns-clause-sound c =
    let node = c.args.self.now in
    let s = c.reach-news.result in
    rw c.reach-news.ensures.same (sound_expanded {node = going node} c.requires.sound (next_emitted node.expanded _ _ c.requires.sound.emitted c.len.ensures.count
    c.if-self-len.false) (subst (λ (xs : List OutboxView). AreAdded c.deref.result.now s (length xs) node.id (length xs) xs (sends_of c.add_for_others.new.outboxes.items))
    c.reserve_for_others.ensures.sends c.add_for_others.ensures))
