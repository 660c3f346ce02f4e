-- One item more is taken.
use Rattle.std.proofs.Common.{◌%◌, get_or, None}
use Rattle.dob_history.proofs.Common.{arith, err_from_is_err_and, refl, rules, subst, sym, IsSeen, Item}
use Rattle.dob_history.proofs.Kepts.{kept_own}
use Rattle.dob_history.proofs.TakenLists.{all_counted, all_taken, before_there, is_next, next_within, none_taken, one_taken, part_done, seen_next}
use Rattle.dob_history.proofs.TakenLists.{stopped_there, IsNext}
use Rattle.dob_history.proofs.taking.take_parts.Goals as goal
use Rattle.dob_history.proofs.taking.take_parts.Goals.{After-look_ahead}

next : (c : After-look_ahead) → IsNext c.args.parts.now c.args.classes.now c.loop-part.part-index c.loop-item._item c.loop-item.taken
    c.part-item.result (get_or c.args.classes.now c.loop-item.taken 0)
next c = is_next c.args.parts.now c.args.classes.now c.loop-part.part-index c.loop-item._item c.loop-item.taken c.part-item.result c.requires.listed
    c.loop-part-test.true (search rules) (search rules) c.loop-item.invariant.counted

pub loop-part-init : goal.loop-part-init
loop-part-init c = record { so_far = none_taken c.args.parts.now c.args.classes.now c.args.share.now c.args.history.now _; counted = refl }

pub look_ahead-requires-clause-next : goal.look_ahead-requires-clause-next
look_ahead-requires-clause-next c = next_within (is_next c.args.parts.now c.args.classes.now c.loop-part.part-index c.loop-item._item c.loop-item.taken
    c.part-item.result c.requires.listed c.loop-part-test.true (search rules) (search rules) c.loop-item.invariant.counted)

pub offset_bounds-classes-taken : goal.offset_bounds-classes-taken
offset_bounds-classes-taken c = let within = next_within (next (goal.at.offset_bounds-classes-taken c).After-look_ahead) in search rules

pub bounds-classes-taken : goal.bounds-classes-taken
bounds-classes-taken c = next_within (next (goal.at.bounds-classes-taken c).After-look_ahead)

pub take_seen-requires-clause-seen : goal.take_seen-requires-clause-seen
take_seen-requires-clause-seen c =
    let here = next (goal.at.take_seen-requires-clause-seen c).After-look_ahead in
    subst (λ (item : Item). IsSeen c.loop-item.share item.to (get_or c.look_ahead.new.looks (c.loop-item.taken % 32) None)) (sym c.item_for-item.ensures)
    (seen_next c.loop-item.taken c.loop-item.share c.args.classes.now c.look_ahead.new.looks (get_or c.args.classes.now c.loop-item.taken 0) None
    c.look_ahead.ensures (next_within here) here.class_is)

pub take_seen-requires-clause-kept : goal.take_seen-requires-clause-kept
take_seen-requires-clause-kept c = (c.requires.kept.0, kept_own (c.loop-item.invariant.so_far.kept c.requires.kept.0 c.requires.kept.1))

pub returns-in_err-take_seen-clause-stopped : goal.returns-in_err-take_seen-clause-stopped
returns-in_err-take_seen-clause-stopped c =
    let given = err_from_is_err_and c.from_residual.result c.from_residual.ensures.1 in
    let why = rw (c.item_for-item.ensures, c.settlement-settlement.ensures.settlement) at c.in_err-take_seen.ensures.why in
    rw (given.1, given.2) (stopped_there (next (goal.at.returns-in_err-take_seen-clause-stopped c).After-look_ahead) c.loop-item.invariant.so_far _ why)

pub returns-in_err-take_seen-clause-before : goal.returns-in_err-take_seen-clause-before
returns-in_err-take_seen-clause-before c =
    let given = err_from_is_err_and c.from_residual.result c.from_residual.ensures.1 in
    let why = rw (c.item_for-item.ensures, c.settlement-settlement.ensures.settlement) at c.in_err-take_seen.ensures.why in
    rw (given.1, given.2) (before_there (next (goal.at.returns-in_err-take_seen-clause-before c).After-look_ahead) c.loop-item.invariant.so_far _
    c.in_err-take_seen.ensures.unchanged why)

pub returns-in_err-take_seen-clause-memory : goal.returns-in_err-take_seen-clause-memory
returns-in_err-take_seen-clause-memory c =
    let within = next_within (next (goal.at.returns-in_err-take_seen-clause-memory c).After-look_ahead) in
    let room = c.loop-item.invariant.so_far.room in
    search rules

pub overflow_add-taken : goal.overflow_add-taken
overflow_add-taken c = let within = next_within (next (goal.at.overflow_add-taken c).After-look_ahead) in search rules

pub loop-item-preserved : goal.loop-item-preserved
loop-item-preserved c =
    let out = c.in_ok-take_seen.ensures in
    let one = rw (c.item_for-item.ensures, c.settlement-settlement.ensures.settlement) at out.taken in
    record {
      so_far = one_taken (next (goal.at.loop-item-preserved c).After-look_ahead) c.loop-item.invariant.so_far one out.room out.kept out.seen c.look_ahead.ensures;
      counted = let counted = c.loop-item.invariant.counted in omega (arith, counted);
    }

pub loop-part-preserved : goal.loop-part-preserved
loop-part-preserved c = record {
  so_far = c.loop-item.invariant.so_far;
  counted = part_done c.args.parts.now c.loop-part.part-index c.loop-item._item c.loop-item.taken c.part-item.result c.loop-part-test.true (search rules)
      (let end = c.loop-item.auto._item-end in omega (arith, end, c.loop-item-test.false, c.items-item-end.ensures)) c.loop-item.invariant.counted;
}

pub returns-clause-taken : goal.returns-clause-taken
returns-clause-taken c = all_taken c.requires.listed
    (all_counted c.args.parts.now c.args.classes.now c.loop-part.part-index c.loop-part.taken c.requires.listed (omega (arith, c.loop-part-test.false))
    c.loop-part.invariant.counted) c.loop-part.invariant.so_far
