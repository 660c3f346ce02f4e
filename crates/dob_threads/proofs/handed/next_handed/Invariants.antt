-- Nothing came yet.
use Rattle.dob_threads.proofs.Common.{◌≡◌, SameConsumer, received}
use Rattle.dob_threads.proofs.handed.next_handed.Given as goal

abbrev pub invariant-loop : goal.invariant-loop
invariant-loop g l = (received l.taking ≡ received l.initial.taking) × SameConsumer l.initial.taking l.taking
