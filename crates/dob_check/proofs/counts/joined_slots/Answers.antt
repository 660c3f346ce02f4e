-- One part more each time, and then all of them.
use Rattle.dob_check.proofs.Common.{◌<◌, arith, ℕ, as_many, IsPart, part_count}
use Rattle.std.proofs.lemmas.Option.{slice_get-get_or}
use Rattle.dob_check.proofs.Counted.{all_first, none_first, one_more, part_at}
use Rattle.dob_check.proofs.Places.{part_begins}
use Rattle.dob_check.proofs.counts.joined_slots.Goals as goal

pub overflow_mul-place : goal.overflow_mul-place
overflow_mul-place c =
    let values = c.args.table.value.values in
    let many = as_many (IsPart values) 0 (part_count values) c.args.parts.now c.requires.parts in
    let begins = part_begins values c.loop-place.place (omega (arith, many, c.loop-place-test.true)) in
    omega (arith, begins, c.requires.few)

pub loop-place-init : goal.loop-place-init
loop-place-init c =
    rw c.new-slots.ensures.items (none_first c.args.table.value.values)

pub loop-place-preserved : goal.loop-place-preserved
loop-place-preserved c =
    let values = c.args.table.value.values in
    let parts = c.args.parts.now in
    let place : ℕ = c.loop-place.place in
    let many = as_many (IsPart values) 0 (part_count values) parts c.requires.parts in
    let below : place < part_count values = omega (arith, many, c.loop-place-test.true) in
    one_more values place c.loop-place.slots.items c.deref.result.now c.add_slots.new.slots.items c.requires.few below c.loop-place.invariant
    (rw c.deref.ensures.value
    (part_at (IsPart values) (part_count values) parts c.requires.parts place _
    (slice_get-get_or parts place c.index-parts-place.result c.loop-place-test.true)).counted)
    c.in_ok-add_slots.ensures

pub returns : goal.returns
returns c =
    let values = c.args.table.value.values in
    let many = as_many (IsPart values) 0 (part_count values) c.args.parts.now c.requires.parts in
    all_first values c.loop-place.place c.loop-place.slots.items (omega (arith, many, c.loop-place-test.false)) c.loop-place.invariant
