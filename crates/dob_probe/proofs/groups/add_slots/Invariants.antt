-- The codes so far are those of both parts.
use Rattle.dob_probe.proofs.Common.{◌++◌, ◌<◌, ◌^◌, ◌≡◌, List, length, Value, AreSlots}
use Rattle.dob_probe.proofs.Slotted.{AreAdded}
use Rattle.dob_probe.proofs.groups.add_slots.Given as goal

abbrev pub invariant-loop-code : goal.invariant-loop-code
invariant-loop-code l =
    (values rest : List Value) → length values ≡ l.classes → length (values ++ rest) < 2 ^ 64 → AreSlots values l.initial.slots.items
    → AreSlots rest l.more → AreAdded values rest l.code l.slots.items
