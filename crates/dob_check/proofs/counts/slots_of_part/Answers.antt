-- The slots are of the classes between the part's bounds.
use Rattle.dob_check.proofs.Common.{◌-◌, ◌≡◌, arith, part_size}
use Rattle.dob_check.proofs.counts.slots_of_part.Goals as goal

pub returns : goal.returns
returns c =
    let bounds = c.part_bounds-first.ensures in
    let size : c.part_bounds-first.result.1 - c.part_bounds-first.result.0 ≡ part_size c.args.table.now.values c.args.place = omega (arith, bounds.first, bounds.end) in
    record { counted = rw (size, bounds.first) at c.in_ok-slots.ensures }
