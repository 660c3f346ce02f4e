-- The parts so far are those of the first classes.
use Rattle.dob_check.proofs.Counted.{AreFirst}
use Rattle.dob_check.proofs.counts.joined_slots.Given as goal

abbrev pub invariant-loop-place : goal.invariant-loop-place
invariant-loop-place l = AreFirst l.table.value.values l.place l.slots.items
