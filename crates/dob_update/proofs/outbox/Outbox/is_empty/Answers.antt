-- Nothing is left where the queue is empty; the items are those that the parts' settlements have left.
use Rattle.dob_update.proofs.Common.{◌↔◌, ◌≡◌, IsOutbox, IsTrue, OutboxState, [], refl, subst}
use Rattle.dob_update.proofs.Runs.{IsOutbox-from_rest}
use Rattle.dob_update.proofs.outbox.Outbox.is_empty.Goals as goal

pub returns-clause-empty : goal.returns-clause-empty
returns-clause-empty c = subst (λ (o : OutboxState). IsTrue c.is_empty.result ↔ (o.sends.items ≡ [])) c.self.view_is c.is_empty.ensures

pub returns-clause-outbox : goal.returns-clause-outbox
returns-clause-outbox c =
    subst (λ (o : OutboxState). IsOutbox o.sends) c.self.view_is (IsOutbox-from_rest _ c.self.inside.queue.parts refl c.self.invariant.rest)
