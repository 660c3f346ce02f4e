-- The inboxes of the nodes below the counter are laid, with an outlet of each node to each of them.
use Rattle.dob_inboxes.proofs.Common.{AreLaidUpto}
use Rattle.dob_inboxes.proofs.inbox_open.open_inboxes.Given as goal

abbrev pub invariant-loop : goal.invariant-loop
invariant-loop l = AreLaidUpto l.capacity l.nodes l.counter l.rows.items l.inlets.items
