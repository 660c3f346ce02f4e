-- Better news of a loss of the enemy.
use Rattle.std.proofs.Common.{arith, refl}
use Rattle.dob_share.proofs.Applied.{is_read, few_plies, loss_not_known, better_loss_applied}
use Rattle.dob_share.proofs.steps.apply_better_loss.Goals.{then-slot-eq0-via-then-slot-eq0, then-slot-eq0-via-else-slot-eq0+then-slot-was}
use Rattle.dob_share.proofs.steps.apply_better_loss.Goals as goal

pub returns-then-slot-eq0 : goal.returns-then-slot-eq0
returns-then-slot-eq0 c = λ pool pooled. loss_not_known (is_read c.args.place pooled c.requires.place c.index-slot.ensures) c.args.to
    c.args.was c.args.now (λ better some most. elim c.then-slot-eq0.branch [
      | then-slot-eq0-via-then-slot-eq0 w ↦ absurd (omega arith)
      | then-slot-eq0-via-else-slot-eq0+then-slot-was w ↦ absurd (omega arith)
    ])

pub win_after-win-requires-clause-win : goal.win_after-win-requires-clause-win
win_after-win-requires-clause-win c = few_plies (is_read c.args.place c.requires.pooled.1 c.requires.place c.index-slot.ensures)

pub returns : goal.returns
returns c = λ pool pooled. better_loss_applied (is_read c.args.place pooled c.requires.place c.index-slot.ensures) c.args.to
    (record { start = c.index-slot.result.now.start; win = c.win_after-win.result; left = c.index-slot.result.now.left; used = c.index-slot.result.now.used })
    c.win_value.result c.change.result refl refl c.win_value.ensures.some c.win_value.ensures.none c.change.ensures
    c.args.was c.args.now (omega arith) (omega arith) (omega arith) refl c.win_after-win.ensures
