-- At the run's end, the greatest distance so far is the greatest that the whole run counts.
use Rattle.dob_share.proofs.Common.{◌≡◌, IsGreatestIn, arith, moves_at, subst, tally, ℕ}
use Rattle.dob_share.proofs.Keeping.{greatest_in}
use Rattle.dob_share.proofs.cells.greatest_win.Goals as goal

pub returns : goal.returns
returns c =
    let whole : c.loop-offset.offset ≡ c.args.slot.used = omega arith in
    greatest_in c.args.pool.now c.args.slot.start c.args.slot.used c.loop-offset.greatest
    (subst (λ (k : ℕ). IsGreatestIn (λ plies. tally (moves_at plies) c.args.pool.now c.args.slot.start k) c.loop-offset.greatest) whole c.loop-offset.invariant)
