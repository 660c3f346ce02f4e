-- a send keeps the rule, and a full inbox holds the last that was sent
use Rattle.std.proofs.Common.{rules}
use Rattle.dob_chan.proofs.Deliveries.{posts, last}
use Rattle.dob_chan.proofs.ends.SendEnd.offer.Goals as goal

pub push_as-requires-clause-rule : goal.push_as-requires-clause-rule
push_as-requires-clause-rule g c = (posts _ _ _ _ (search rules) (search rules) (search rules), last _ _ (search rules))
