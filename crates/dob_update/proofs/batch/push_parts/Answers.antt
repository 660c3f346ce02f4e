-- Each part's classes are there, and its items are appended.
use Rattle.dob_update.proofs.Common.{ap, arith, items_in_all, refl, rules}
use Rattle.dob_update.proofs.PartItems.{next_part, making_within, making_more, making_all}
use Rattle.dob_update.proofs.batch.push_parts.Goals as goal

pub loop-part-init : goal.loop-part-init
loop-part-init c = record { making = record { so_far = refl; within = omega (arith, c.requires.within) }; room = omega (arith, c.requires.room) }

pub push_part_items-requires-clause-within : goal.push_part_items-requires-clause-within
push_part_items-requires-clause-within c =
    rw c.items-items.ensures (making_within c.args.parts.now c.args.classes.now c.loop-part.part-index c.loop-part.next c.args.list.now.items c.loop-part.list.items
    c.part-item.result c.loop-part-test.true (search rules) c.loop-part.invariant.making)

pub push_part_items-requires-clause-room : goal.push_part_items-requires-clause-room
push_part_items-requires-clause-room c =
    let left = next_part c.args.parts.now c.loop-part.part-index c.part-item.result c.loop-part-test.true (search rules) in
    omega (arith, c.loop-part.invariant.room, ap items_in_all left, c.items-items.ensures)

pub loop-part-preserved : goal.loop-part-preserved
loop-part-preserved c =
    let part = c.part-item.result in
    let left = next_part c.args.parts.now c.loop-part.part-index part c.loop-part-test.true (search rules) in
    rw c.items-items.ensures (record {
      making = making_more c.args.parts.now c.args.classes.now c.loop-part.part-index c.loop-part.next c.args.list.now.items c.loop-part.list.items
          c.push_part_items.new.list.items part c.loop-part-test.true (search rules) c.loop-part.invariant.making
          (rw (c.settlement.ensures.settlement, c.items-items.ensures) at c.push_part_items.ensures.items);
      room = omega (arith, c.loop-part.invariant.room, ap items_in_all left, c.push_part_items.ensures.len, c.push_part_items.ensures.capacity, c.items-items.ensures);
    })

pub returns : goal.returns
returns c = making_all c.args.parts.now c.args.classes.now c.loop-part.part-index c.loop-part.next c.args.list.now.items c.loop-part.list.items
    (omega (arith, c.loop-part-test.false)) c.loop-part.invariant.making
