-- The nodes so far, with those of the runners left, are those of all runners; the parts are those of the endpoints of the runners gone over.
use Rattle.dob_crew.proofs.Common.{◌++◌, ◌≡◌, map, vec_len, ℕ, into_iter_items, ArePartsOf, endpoint_of, node_of}
use Rattle.dob_endpoint.proofs.Places.{HaveGone}
use Rattle.dob_crew.proofs.crew_close.part_runners.Given as goal

abbrev pub invariant-loop-runner : goal.invariant-loop-runner
invariant-loop-runner l = record {
  nodes_are : map node_of l.fn.runners.items ≡ l.nodes.items ++ map node_of (into_iter_items l.runner-iterator);
  done : ℕ;
  gone : HaveGone l.fn.runners.items (into_iter_items l.runner-iterator) done;
  are : ArePartsOf (vec_len l.fn.runners) (map endpoint_of gone.gone) l.parts;
}
