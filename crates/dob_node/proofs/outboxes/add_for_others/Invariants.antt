-- The outboxes for the nodes so far have the settlement, and the others are as they were.
use Rattle.dob_node.proofs.Common.{◌≡◌, ◌≤◌, AreAdded, OutboxState, get_or, length, sends_of, ℕ}
use Rattle.dob_node.proofs.outboxes.add_for_others.Given as goal

abbrev pub invariant-loop-to : goal.invariant-loop-to
invariant-loop-to l = record {
  added : AreAdded l.targets l.news l.nodes l.from l.to (sends_of l.initial.outboxes.items) (sends_of l.outboxes.items);
  later : (k : ℕ) (default : OutboxState) → l.to ≤ k → get_or l.outboxes.items k default ≡ get_or l.initial.outboxes.items k default;
  whole : length l.outboxes.items ≡ length l.initial.outboxes.items;
}
