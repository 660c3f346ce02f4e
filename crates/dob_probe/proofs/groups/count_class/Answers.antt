-- The slot of the value's code has one class more.
use Rattle.dob_probe.proofs.Slotted.{slots_counted, room_counted}
use Rattle.dob_probe.proofs.groups.count_class.Goals as goal

pub with_class-requires : goal.with_class-requires
with_class-requires c =
    room_counted c.requires.slots.0 c.args.slots.now.items c.make_room.new.slots.items c.code_of_value-code.result c.args.class c.index-slot.result.now
    c.index-slot.ensures c.requires.slots.1 c.requires.room c.in_ok-make_room.ensures.long c.in_ok-make_room.ensures.same c.requires.slots.2

pub returns : goal.returns
returns c = λ values counted are.
    slots_counted values c.args.value c.args.slots.now.items c.make_room.new.slots.items c.code_of_value-code.result c.args.class
    c.index-slot.result.now c.with_class.result c.code_of_value-code.ensures.code c.index-slot.ensures c.with_class.ensures counted
    c.requires.room c.requires.entry
    c.in_ok-make_room.ensures.long c.in_ok-make_room.ensures.same are
