-- What is to be sent stays, and the outboxes for the nodes so far have room.
use Rattle.dob_node.proofs.Common.{◌≡◌, HaveRoom, length, sends_of}
use Rattle.dob_node.proofs.outboxes.reserve_for_others.Given as goal

abbrev pub invariant-loop-to : goal.invariant-loop-to
invariant-loop-to l = record {
  sends : sends_of l.outboxes.items ≡ sends_of l.initial.outboxes.items;
  room : HaveRoom l.items l.from l.to l.outboxes.items;
  whole : length l.outboxes.items ≡ length l.initial.outboxes.items;
}
