-- The outboxes so far are empty.
use Rattle.dob_node.proofs.Common.{◌≡◌, empty_outbox, length, outbox_in, sends_of, ℕ}
use Rattle.dob_node.proofs.outboxes.empty_outboxes.Given as goal

abbrev pub invariant-loop-to : goal.invariant-loop-to
invariant-loop-to l = record {
  whole : length l.outboxes.items ≡ l.to;
  empty : (k : ℕ) → outbox_in l.family l.count l.from (sends_of l.outboxes.items) k ≡ empty_outbox l.family l.count l.from k;
}
