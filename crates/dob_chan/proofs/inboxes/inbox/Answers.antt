-- a new inbox is lawful
use Rattle.std.proofs.Common.{arith}
use Rattle.std.proofs.lemmas.Grind.{common_steps}
use Rattle.dob_chan.proofs.Deliveries.{begins}
use Rattle.dob_chan.proofs.inboxes.inbox.Goals as goal

pub ruled-requires-clause-rule : goal.ruled-requires-clause-rule
ruled-requires-clause-rule g = begins

pub invariant_of-result : goal.invariant_of-result
invariant_of-result c = grind (arith, common_steps)
