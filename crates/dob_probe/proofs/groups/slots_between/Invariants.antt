-- The classes of the part so far are counted.
use Rattle.dob_probe.proofs.Common.{◌-◌, ◌≤◌, AreSlots, part_of}
use Rattle.dob_probe.proofs.groups.slots_between.Given as goal

abbrev pub invariant-loop-class : goal.invariant-loop-class
invariant-loop-class l = (l.first ≤ l.class) × AreSlots (part_of l.table.values l.first (l.class - l.first)) l.slots.items
