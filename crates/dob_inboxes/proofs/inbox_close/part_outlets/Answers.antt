-- The next outlet's end and slot go last in their lists, which in the end are those of all the outlets.
use Rattle.dob_inboxes.proofs.Common.{refl, rules, outlet_end, outlet_slot}
use Rattle.dob_endpoint.proofs.Places.{moves_on, ends_up}
use Rattle.dob_inboxes.proofs.inbox_close.part_outlets.Goals as goal

pub loop-outlet-preserved : goal.loop-outlet-preserved
loop-outlet-preserved c =
    let inv = c.loop-outlet.invariant in
    let step = c.in-Some.ensures.steps in record {
      ends_are = moves_on outlet_end _ _ _ _ _ _ _ inv.ends_are step.0 refl c.in_ok-push.ensures.items;
      slots_are = moves_on outlet_slot _ _ _ _ _ _ _ inv.slots_are step.0 refl c.in_ok-push-2.ensures.items;
    }

pub returns-clause-ends : goal.returns-clause-ends
returns-clause-ends c = ends_up outlet_end _ _ _ c.loop-outlet.invariant.ends_are (search rules)

pub returns-clause-slots : goal.returns-clause-slots
returns-clause-slots c = ends_up outlet_slot _ _ _ c.loop-outlet.invariant.slots_are (search rules)
