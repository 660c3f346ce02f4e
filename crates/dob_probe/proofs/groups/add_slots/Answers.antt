-- One code more of both parts each time, and then all of them.
use Rattle.std.proofs.lemmas.List.{get_or_default}
use Rattle.dob_probe.proofs.Slotted.{added_all, added_more, added_none}
use Rattle.dob_probe.proofs.groups.add_slots.Goals as goal

pub loop-code-init : goal.loop-code-init
loop-code-init c = λ values rest long few are more. added_none values rest c.args.classes long few c.args.slots.now.items are

pub loop-code-preserved : goal.loop-code-preserved
loop-code-preserved c = λ values rest long few are more.
    added_more values rest c.args.classes long few c.loop-code.slots.items c.make_room.new.slots.items c.args.more.now c.loop-code.code
    c.index-slot.result.now _ c.both_slots.result c.index-slot.ensures (get_or_default c.args.more.now c.loop-code.code _ _ c.loop-code-test.true) c.both_slots.ensures c.in_ok-make_room.ensures.long
    c.loop-code-test.true c.in_ok-make_room.ensures.same more (c.loop-code.invariant values rest long few are more)

pub returns : goal.returns
returns c = λ values rest long few are more.
    added_all values rest c.args.classes long few c.loop-code.slots.items c.args.more.now c.loop-code.code c.loop-code-test.false more
    (c.loop-code.invariant values rest long few are more)
