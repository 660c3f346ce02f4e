-- There is an item for each class that is listed.
use Rattle.dob_update.proofs.Common.{◌∙◌, ◌≡◌, QueueView, length, queued, rules, subst, sym}
use Rattle.dob_update.proofs.Queues.{many_queued}
use Rattle.dob_update.proofs.queue.ItemQueue.len.Goals as goal

pub returns-clause-items : goal.returns-clause-items
returns-clause-items c =
    let many : c.len.result ≡ length c.self.inside.classes.items = search rules in
    subst (λ (q : QueueView). c.len.result ≡ length (queued q)) c.self.view_is (many ∙ sym (many_queued c.self.invariant))
