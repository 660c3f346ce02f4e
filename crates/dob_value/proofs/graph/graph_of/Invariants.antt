-- The nodes of the classes so far stand.
use Rattle.dob_value.specs.Graphs.{AreNodes}
use Rattle.dob_value.proofs.graph.graph_of.Given as goal

abbrev pub invariant-loop-number : goal.invariant-loop-number
invariant-loop-number l = AreNodes l.classes.family l.number l.statuses.items l.starts.items l.successors.items
