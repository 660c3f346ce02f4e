-- None is left where no class is listed.
use Rattle.dob_update.proofs.Common.{◌↔◌, ◌≡◌, IsTrue, QueueView, [], length, queued, rules, subst}
use Rattle.dob_update.proofs.Queues.{none_queued}
use Rattle.dob_update.proofs.queue.ItemQueue.is_empty.Goals as goal

pub returns : goal.returns
returns c =
    let empty : IsTrue c.is_empty.result ↔ (length c.self.inside.classes.items ≡ 0) = search rules in
    let both = none_queued c.self.invariant in
    subst (λ (q : QueueView). IsTrue c.is_empty.result ↔ (queued q ≡ [])) c.self.view_is (λ yes. both.1 (empty.0 yes), λ none. empty.1 (both.0 none))
