-- The parts so far have all of their items among the first.
use Rattle.dob_update.proofs.Common.{◌-◌, length}
use Rattle.dob_update.proofs.Queues.{IsCountedOff}
use Rattle.dob_update.proofs.queue.drop_parts.Given as goal

abbrev pub invariant-loop-gone : goal.invariant-loop-gone
invariant-loop-gone l = IsCountedOff l.k l.rest l.gone l.parts.items

abbrev pub decreases-loop-gone : goal.decreases-loop-gone
decreases-loop-gone l = length l.parts.items - l.gone
