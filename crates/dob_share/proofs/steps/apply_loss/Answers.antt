-- The first news of a loss of the enemy.
use Rattle.dob_share.proofs.Common.{Draw, Loss}
use Rattle.std.proofs.lemmas.Grind.{common_steps}
use Rattle.std.proofs.Common.{◌-◌, arith, refl}
use Rattle.dob_share.proofs.Applied.{is_read, few_plies, misfit_here, loss_too_deep, loss_applied}
use Rattle.dob_share.proofs.steps.apply_loss.Goals as goal

pub returns-then-slot-eq0 : goal.returns-then-slot-eq0
returns-then-slot-eq0 c = λ pool pooled. misfit_here (is_read c.args.place pooled c.requires.place c.index-slot.ensures) c.args.to
    Draw (Loss c.args.plies) (λ takes. absurd (omega arith))

pub returns-then-plies-ge-MAX_DISTANCE : goal.returns-then-plies-ge-MAX_DISTANCE
returns-then-plies-ge-MAX_DISTANCE c = λ pool pooled. loss_too_deep (is_read c.args.place pooled c.requires.place c.index-slot.ensures) c.args.to
    c.args.plies (omega arith) (omega arith) (omega arith)

pub win_after-win-requires-clause-win : goal.win_after-win-requires-clause-win
win_after-win-requires-clause-win c = few_plies (is_read c.args.place c.requires.pooled.1 c.requires.place c.index-slot.ensures)

pub returns : goal.returns
returns c = λ pool pooled. loss_applied (is_read c.args.place pooled c.requires.place c.index-slot.ensures) c.args.to
    (record { start = c.index-slot.result.now.start; win = c.win_after-win.result; left = c.index-slot.result.now.left - 1; used = c.index-slot.result.now.used })
    c.win_value.result c.change.result refl refl c.win_value.ensures.some c.win_value.ensures.none c.change.ensures
    c.args.plies (omega arith) (λ none. grind (arith, common_steps)) refl c.win_after-win.ensures
