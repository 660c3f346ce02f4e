-- One empty outbox more.
use Rattle.dob_node.proofs.Common.{◌++◌, ◌+◌, ◌∙◌, ◌∷◌, ◌≡◌, OutboxState, OutboxView, [], ap, length, length-append, sends_of, ℕ}
use Rattle.std.proofs.lemmas.List.{length-map, map-append}
use Rattle.dob_node.proofs.Sends.{empties_more}
use Rattle.dob_node.proofs.outboxes.empty_outboxes.Goals as goal

pub loop-to-preserved : goal.loop-to-preserved
loop-to-preserved c =
    let old = c.loop-to.outboxes.items in
    let is : c.push.new.self.items ≡ old ++ c.new.result ∷ [] = c.in_ok-push.ensures.items in
    record {
      whole = ap length is ∙ length-append old (c.new.result ∷ []) ∙ ap (λ (k : ℕ). k + 1) c.loop-to.invariant.whole;
      empty = empties_more c.args.family c.get-count.result c.args.from c.loop-to.to (sends_of old) (sends_of c.push.new.self.items)
          (length-map old (λ (o : OutboxState). o.sends) ∙ c.loop-to.invariant.whole) c.loop-to.invariant.empty
          (ap sends_of is ∙ map-append (λ (o : OutboxState). o.sends) old (c.new.result ∷ []) ∙ ap (λ (o : OutboxView). sends_of old ++ o ∷ []) c.new.ensures);
    }

pub returns-clause-empty : goal.returns-clause-empty
returns-clause-empty c = rw c.get-count.ensures.value at c.loop-to.invariant.empty
