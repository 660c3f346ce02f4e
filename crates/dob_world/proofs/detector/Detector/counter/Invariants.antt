-- The batches posted to the nodes so far, and those taken of them, added up.
use Rattle.dob_world.proofs.Common.{◌*◌, ◌^◌, ◌≡◌, ◌≤◌, ring_of, sum_below}
use Rattle.dob_world.proofs.detector.Detector.counter.Given as goal

abbrev pub invariant-loop-other : goal.invariant-loop-other
invariant-loop-other l = record {
  posted_is : l.posted ≡ sum_below l.other (λ j. (ring_of l.fn.self).posted l.node j);
  taken_is : l.taken ≡ sum_below l.other (λ j. (ring_of l.fn.self).taken j l.node);
  few_posted : l.posted ≤ l.other * 2 ^ 40;
  few_taken : l.taken ≤ l.other * 2 ^ 40;
}
