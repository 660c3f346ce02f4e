-- The places below the sender have what the slot has of them, and the later ones are still to come.
use Rattle.dob_inboxes.proofs.Common.{◌≡◌, ◌≤◌, ℕ, held_from, slot_row}
use Rattle.dob_inboxes.proofs.inbox_close.spread_slot.Given as goal

abbrev pub invariant-loop-from : goal.invariant-loop-from
invariant-loop-from l = (l.slots.items ≡ slot_row l.from l.fn.slot) × ((k : ℕ) → l.from ≤ k → held_from l.left k ≡ held_from l.fn.slot k)
