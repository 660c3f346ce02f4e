-- What was read before, and what is still read, is the whole.
use Rattle.dob_certfile.proofs.Common.{◌-◌, ◌≡◌, ◌≤◌, entries_at}
use Rattle.dob_certfile.proofs.Lists.{with_front}
use Rattle.dob_certfile.proofs.entries.entries_of.Given as goal

abbrev pub invariant-loop : goal.invariant-loop
invariant-loop l = (with_front l.entries.items (entries_at l.kind l.classes l.least (l.count - l.counter) l.rest) ≡ entries_at l.kind l.classes 0 l.count l.bytes) × (l.least ≤ l.classes)
