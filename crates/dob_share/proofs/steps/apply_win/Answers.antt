-- The first news of a win of the enemy: one more is counted, and the value stays but where it was the last move's.
use Rattle.dob_share.proofs.Common.{◌+◌, ◌<◌, ◌≡◌, ChangesRun, Draw, Win, arith, inl, inr, length, more_at, refl, subst, sym, wins_in, ℕ}
use Rattle.dob_share.proofs.Applied.{is_read, entry_free, start_told, misfit_here, win_applied}
use Rattle.dob_share.proofs.steps.apply_win.Goals as goal

pub returns-then-slot-eq0 : goal.returns-then-slot-eq0
returns-then-slot-eq0 c = misfit_here (is_read c.args.seen.place c.requires.pooled c.requires.place c.index-slot.ensures) c.args.to Draw
    (Win c.args.plies) (λ takes. absurd (omega arith))

pub returns-then-slot-eq0-2 : goal.returns-then-slot-eq0-2
returns-then-slot-eq0-2 c = c.apply_last_win.ensures c.args.to

pub count_win-requires : goal.count_win-requires
count_win-requires c =
    let here = is_read c.args.seen.place c.requires.pooled c.requires.place c.index-slot.ensures in
    subst (λ (k : ℕ). k + c.index-slot.result.now.used < length c.args.pool.now) (start_told here c.args.seen.start c.requires.start) (entry_free here (omega arith))

pub returns : goal.returns
returns c =
    let here = is_read c.args.seen.place c.requires.pooled c.requires.place c.index-slot.ensures in
    let told = sym (start_told here c.args.seen.start c.requires.start) in
    win_applied here c.args.to c.args.plies _ c.count_win.new.pool (omega arith) refl refl refl refl
    (subst (λ (k : ℕ). ChangesRun k (c.index-slot.result.now.used + 1) c.args.pool.now c.count_win.new.pool) told c.count_win.ensures.changes)
    (subst (λ (k : ℕ). (other : ℕ) → wins_in c.count_win.new.pool k (c.index-slot.result.now.used + 1) other
    ≡ more_at c.args.plies (wins_in c.args.pool.now k c.index-slot.result.now.used) other) told c.count_win.ensures.wins)
    (λ last none. elim c.else-slot-eq1.either [ inl both ↦ both.1 none | inr not ↦ not last ])
