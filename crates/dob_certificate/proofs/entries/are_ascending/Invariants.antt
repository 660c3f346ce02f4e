-- The classes before the place ascend.
use Rattle.dob_certificate.proofs.Common.{◌+◌, ◌<◌, ℕ, class_at}
use Rattle.dob_certificate.proofs.entries.are_ascending.Given as goal

abbrev pub invariant-loop-place : goal.invariant-loop-place
invariant-loop-place l = (place : ℕ) → place + 1 < l.place → class_at l.entries place < class_at l.entries (place + 1)
