-- the next sender's pass keeps the rule
use Rattle.std.proofs.Common.{rules, ap}
use Rattle.dob_chan.proofs.Deliveries.{opens}
use Rattle.dob_chan.proofs.inboxes.open_next.Goals as goal

pub another-own-requires-clause-rule : goal.another-own-requires-clause-rule
another-own-requires-clause-rule c = opens _ _ (ap (λ v. v.takes) c.requires.role) (search rules)
