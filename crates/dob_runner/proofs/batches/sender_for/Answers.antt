-- The sender is that of the batch in the slot, which is one of the family from it to the other node; and no other batch is.
use Rattle.dob_runner.proofs.Common.{rules, sym}
use Rattle.dob_runner.proofs.batches.sender_for.Goals as goal

pub returns : goal.returns
returns c = record { batch = c.in-Some.batch; held = search rules; sender = sym c.from-from.ensures; other = c.if-from-to.false; fits = c.is_for.ensures.0 c.if-not-is_for.false }
