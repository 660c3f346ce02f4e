-- There are as many as in the queue.
use Rattle.dob_update.proofs.Common.{◌≡◌, OutboxState, length, subst}
use Rattle.dob_update.proofs.outbox.Outbox.len.Goals as goal

pub returns : goal.returns
returns c = subst (λ (o : OutboxState). c.len.result ≡ length o.sends.items) c.self.view_is c.len.ensures.items
