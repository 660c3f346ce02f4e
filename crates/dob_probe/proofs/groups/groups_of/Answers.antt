-- The groups of the slots so far, and of all.
use Rattle.std.proofs.Common.{refl, None, get_or}
use Rattle.dob_probe.proofs.Slotted.{groups_none, groups_more, groups_all}
use Rattle.dob_probe.proofs.groups.groups_of.Goals as goal

pub loop-slot-init : goal.loop-slot-init
loop-slot-init c = λ values are. rw c.new-groups.ensures.items (groups_none c.args.slots.now)

pub loop-slot-preserved : goal.loop-slot-preserved
loop-slot-preserved c = λ values are.
    rw c.in_ok-push_group.ensures
    (groups_more values c.args.slots.now are c.loop-slot.slot-index c.loop-slot.groups.items (get_or c.args.slots.now c.loop-slot.slot-index None) refl
    (c.loop-slot.invariant values are))

pub returns : goal.returns
returns c = λ values entries are.
    groups_all values c.args.slots.now are c.loop-slot.slot-index c.loop-slot.groups.items c.loop-slot-test.false entries
    (c.loop-slot.invariant values are)
