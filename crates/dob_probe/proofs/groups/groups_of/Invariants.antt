-- The groups of the slots so far.
use Rattle.dob_probe.proofs.Common.{List, Value, AreSlots}
use Rattle.dob_probe.proofs.Slotted.{AreFirstGroups}
use Rattle.dob_probe.proofs.groups.groups_of.Given as goal

abbrev pub invariant-loop-slot : goal.invariant-loop-slot
invariant-loop-slot l = (values : List Value) → AreSlots values l.slots → AreFirstGroups l.slots l.slot-index l.groups.items
