-- The inboxes of the rows gone over are ended, their links stand in the rows of their senders, and the other ends are left.
use Rattle.dob_inboxes.proofs.Common.{vec_len, into_iter_items}
use Rattle.dob_inboxes.proofs.Inboxes.{AreOn}
use Rattle.dob_inboxes.proofs.inbox_close.rejoin_all.Given as goal

abbrev pub invariant-loop-row : goal.invariant-loop-row
invariant-loop-row g l = AreOn (vec_len l.fn.takes) l.fn.sends.items l.fn.takes.items (into_iter_items l.row-iterator.a) (into_iter_items l.row-iterator.b) l.rows.items
