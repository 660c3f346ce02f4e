-- the next sender's pass ends
use Rattle.std.proofs.Common.{ap}
use Rattle.dob_chan.proofs.Deliveries.{ends}
use Rattle.dob_chan.proofs.rejoins.end_next.Goals as goal

pub absorb-requires-clause-rule : goal.absorb-requires-clause-rule
absorb-requires-clause-rule c = ends _ _ _ _ (ap (λ v. v.takes) c.requires.role) (ap (λ v. v.sends) c.args.send.role) c.requires.end.1
