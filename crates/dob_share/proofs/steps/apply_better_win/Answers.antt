-- Better news of a win of the enemy: it is counted anew, and the slot stays.
use Rattle.dob_share.proofs.Common.{Win, arith}
use Rattle.dob_share.proofs.Applied.{is_read, change_of, short_here, run_within, misfit_here, better_win_short, better_win_applied}
use Rattle.dob_share.proofs.steps.apply_better_win.Goals as goal

pub counted_place-requires : goal.counted_place-requires
counted_place-requires c = run_within (is_read c.args.place c.requires.pooled c.requires.place c.index-slot.ensures)

pub returns-in_default : goal.returns-in_default
returns-in_default c = misfit_here (is_read c.args.place c.requires.pooled c.requires.place c.index-slot.ensures)
    c.args.to (Win c.args.was) (Win c.args.now) (λ takes. let some = takes.1 in let none = c.in_default.ensures.wins in absurd (omega arith))

pub value_in-before-requires-clause-short : goal.value_in-before-requires-clause-short
value_in-before-requires-clause-short c = short_here (is_read c.args.place c.requires.pooled c.requires.place c.index-slot.ensures)

pub value_in-after-requires-clause-short : goal.value_in-after-requires-clause-short
value_in-after-requires-clause-short c = better_win_short (is_read c.args.place c.requires.pooled c.requires.place c.index-slot.ensures)
    c.args.to c.args.was c.args.now c.count_better.new.pool c.if-now-was.false c.in-Some.ensures.wins
    c.count_better.ensures.changes (c.count_better.ensures.wins c.args.was c.in-Some.ensures.place.2 c.if-now-was.false)

pub returns : goal.returns
returns c = better_win_applied (is_read c.args.place c.requires.pooled c.requires.place c.index-slot.ensures)
    c.args.to c.args.was c.args.now c.count_better.new.pool c.if-now-was.false c.in-Some.ensures.wins
    c.count_better.ensures.changes (c.count_better.ensures.wins c.args.was c.in-Some.ensures.place.2 c.if-now-was.false)
    c.change.result (change_of _ _ c.value_in-before.result c.value_in-after.result c.change.result c.value_in-before.ensures c.value_in-after.ensures c.change.ensures)
