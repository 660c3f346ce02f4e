-- one sender more is counted, as long as none has a pass
use Rattle.std.proofs.Common.{ap}
use Rattle.dob_chan.proofs.Deliveries.{counts}
use Rattle.dob_chan.proofs.inboxes.count.Goals as goal

pub another-requires-clause-rule : goal.another-requires-clause-rule
another-requires-clause-rule c = counts _ _ (ap (λ v. v.takes) c.loop.invariant.1) (ap (λ v. v.opened) c.loop.invariant.1)
