-- The ends and the slots so far, followed by those of the outlets that are left, are those of all the outlets.
use Rattle.dob_inboxes.proofs.Common.{◌++◌, ◌≡◌, map, into_iter_items, outlet_end, outlet_slot}
use Rattle.dob_inboxes.proofs.inbox_close.part_outlets.Given as goal

abbrev pub invariant-loop-outlet : goal.invariant-loop-outlet
invariant-loop-outlet l = record {
  ends_are : map outlet_end l.fn.outlets.items ≡ l.ends.items ++ map outlet_end (into_iter_items l.outlet-iterator);
  slots_are : map outlet_slot l.fn.outlets.items ≡ l.slots.items ++ map outlet_slot (into_iter_items l.outlet-iterator);
}
