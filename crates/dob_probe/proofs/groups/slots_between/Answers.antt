-- Each class is counted with its value.
use Rattle.std.proofs.lemmas.Result.{err_from_is_err_and}
use Rattle.dob_probe.proofs.Common.{◌-◌, ◌≡◌, ◌≤◌, arith, slice_get_within, subst, AreSlots, IsEntry, part_of}
use Rattle.dob_probe.proofs.Entries.{all_at}
use Rattle.dob_probe.proofs.Slotted.{part_long, part_more, part_none, slots_none}
use Rattle.dob_probe.proofs.groups.slots_between.Goals as goal

pub loop-class-init : goal.loop-class-init
loop-class-init c = (
  omega arith,
  rw (part_none c.args.table.now.values c.args.first, c.new-slots.ensures.items) slots_none,
)

pub count_class-requires-clause-slots : goal.count_class-requires-clause-slots
count_class-requires-clause-slots c =
    let values = c.args.table.now.values in
    let from : c.args.first ≤ c.loop-class.class = c.loop-class.invariant.0 in
    let within = slice_get_within values c.loop-class.class c.value.result c.value.ensures in
    (part_of values c.args.first (c.loop-class.class - c.args.first), part_long values c.args.first c.loop-class.class from (omega (arith, within)), c.loop-class.invariant.1)

pub loop-class-preserved : goal.loop-class-preserved
loop-class-preserved c =
    let values = c.args.table.now.values in
    let from : c.args.first ≤ c.loop-class.class = c.loop-class.invariant.0 in
    let within = slice_get_within values c.loop-class.class c.value.result c.value.ensures in (
      omega (arith, from),
      rw (part_more values c.args.first c.loop-class.class c.value.result from c.value.ensures)
          (c.in_ok-count_class.ensures (part_of values c.args.first (c.loop-class.class - c.args.first))
          (part_long values c.args.first c.loop-class.class from (omega (arith, within))) c.loop-class.invariant.1),
    )

pub count_class-requires-clause-entry : goal.count_class-requires-clause-entry
count_class-requires-clause-entry c = all_at IsEntry c.args.table.now.values c.loop-class.class c.value.result c.family-family.ensures.table.entries c.value.ensures

pub returns-in_err-count_class : goal.returns-in_err-count_class
returns-in_err-count_class c = let p = err_from_is_err_and c.from_residual.result c.from_residual.ensures.1 in rw p.1 tt

pub returns : goal.returns
returns c =
    let end : c.loop-class.class ≡ c.args.end = omega (arith, c.requires.order, c.loop-class-test.false, c.loop-class.auto.class-end) in
    subst (λ n. AreSlots (part_of c.args.table.now.values c.args.first (n - c.args.first)) c.loop-class.slots.items) end c.loop-class.invariant.1
