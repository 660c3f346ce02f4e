-- There are as many rows so far as were counted, and each is empty.
use Rattle.dob_inboxes.proofs.Common.{AreRows}
use Rattle.dob_inboxes.proofs.rows.empty_rows.Given as goal

abbrev pub invariant-loop : goal.invariant-loop
invariant-loop g l = AreRows l.counter 0 l.rows.items
