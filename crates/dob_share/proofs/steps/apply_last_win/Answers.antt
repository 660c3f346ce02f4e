-- The last move's win of the enemy: the cell's value becomes a loss, or is too deep.
use Rattle.dob_share.proofs.Common.{◌+◌, ◌<◌, ◌∙◌, ◌≡◌, ◌≤◌, Draw, IsApplied, Loss, Ok, Some, Win, ap, arith, greater_of, refl, set, subst, sym, ℕ}
use Rattle.dob_share.proofs.Applied.{IsRead, is_read, slot_is, run_within, entry_free, win_too_deep, last_win_applied}
use Rattle.dob_share.proofs.steps.apply_last_win.Goals.{After-later-greatest}
use Rattle.dob_share.proofs.steps.apply_last_win.Goals as goal

here : (c : After-later-greatest) → IsRead c.args.slots.now c.args.pool.now c.args.place c.index-slot.result.now
here c = is_read c.args.place c.requires.pooled c.requires.place c.index-slot.ensures

last : (c : After-later-greatest) → c.index-slot.result.now.left ≡ 1
last c = ap (λ s. s.left) (slot_is (here c)) ∙ c.requires.last

no_loss : (c : After-later-greatest) → c.index-slot.result.now.win ≡ 0
no_loss c = ap (λ s. s.win) (slot_is (here c)) ∙ c.requires.no_loss

pub greatest_win-requires : goal.greatest_win-requires
greatest_win-requires c = run_within (is_read c.args.place c.requires.pooled c.requires.place c.index-slot.ensures)

pub returns-then-greatest-ge-MAX_DISTANCE : goal.returns-then-greatest-ge-MAX_DISTANCE
returns-then-greatest-ge-MAX_DISTANCE c = λ to.
    let w = (goal.at.returns-then-greatest-ge-MAX_DISTANCE c).After-later-greatest in
    win_too_deep (here w) to c.args.plies c.greatest_win.result (last w) (no_loss w) c.greatest_win.ensures
    (let same : c.later-greatest.result ≡ greater_of c.greatest_win.result c.args.plies = c.later-greatest.ensures in
    let deep : 65534 ≤ c.later-greatest.result = c.if-greatest-ge-MAX_DISTANCE.true in omega arith)

pub count_win-requires : goal.count_win-requires
count_win-requires c =
    let w = (goal.at.count_win-requires c).After-later-greatest in
    let left = last w in
    entry_free (here w) (omega arith)

pub returns : goal.returns
returns c = λ to.
    let w = (goal.at.returns c).After-later-greatest in
    let left : c.index-slot.result.now.left ≡ 1 = last w in
    subst (λ (k : ℕ). IsApplied to Draw (Win c.args.plies) c.args.place c.args.slots.now c.args.pool.now
    (set c.args.slots.now c.args.place (record { start = c.index-slot.result.now.start; win = 0; left = 0; used = c.index-slot.result.now.used + 1 })) c.count_win.new.pool
    (Ok (Some (Draw, Loss (k + 1))))) (sym c.later-greatest.ensures)
    (last_win_applied (here w) to c.args.plies _ c.count_win.new.pool (omega arith) refl refl (omega arith) (sym (no_loss w))
    c.count_win.ensures.changes c.count_win.ensures.wins left (no_loss w)
    c.greatest_win.result c.greatest_win.ensures (let same : c.later-greatest.result ≡ greater_of c.greatest_win.result c.args.plies = c.later-greatest.ensures in
    let below : c.later-greatest.result < 65534 = c.if-greatest-ge-MAX_DISTANCE.false in omega arith))
