-- So many nodes have their slots and are workers, and the other nodes and rows of slots are left.
use Rattle.std.proofs.Common.{length, map}
use Rattle.std.specs.Vec.Iter.{into_iter_items}
use Rattle.dob_endpoint.proofs.Places.{HaveGone}
use Rattle.dob_crew.specs.CrewClose.{row_of}
use Rattle.dob_turns.specs.BoundedRun.{AreWorkers}
use Rattle.dob_turns.proofs.bounded_run.workers_of.Given as goal

abbrev pub invariant-loop-node : goal.invariant-loop-node
invariant-loop-node l = record {
  nodes_are : HaveGone l.fn.nodes.items (into_iter_items l.node-iterator.a.a) (length l.workers.items);
  sending_are : HaveGone l.fn.sending.items (into_iter_items l.node-iterator.a.b) (length l.workers.items);
  taking_are : HaveGone l.fn.taking.items (into_iter_items l.node-iterator.b) (length l.workers.items);
  so_far : AreWorkers (length l.workers.items) l.fn.nodes.items (map row_of l.fn.sending.items) (map row_of l.fn.taking.items) l.workers.items;
}
