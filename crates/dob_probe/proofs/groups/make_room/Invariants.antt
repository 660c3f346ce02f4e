-- Only empty slots were appended.
use Rattle.std.proofs.Common.{◌≡◌, ℕ, ◌+◌, ◌-◌, None, get_or, vec_len}
use Rattle.dob_probe.proofs.groups.make_room.Given as goal

abbrev pub invariant-loop-slots : goal.invariant-loop-slots
invariant-loop-slots l = (k : ℕ) → get_or l.slots.items k None ≡ get_or l.fn.slots.items k None

abbrev pub decreases-loop-slots : goal.decreases-loop-slots
decreases-loop-slots l = l.code + 1 - vec_len l.slots
