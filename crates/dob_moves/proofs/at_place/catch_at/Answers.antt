-- A step onto the lion stands before the drops, at the place of its two squares.
use Rattle.dob_moves.proofs.Common.{subst, CatchesLion, AtLion}
use Rattle.dob_moves.proofs.ByPlace.{IsFoundAt, step_answer, as_pairs}
use Rattle.dob_moves.proofs.at_place.catch_at.Goals as goal

pub returns : goal.returns
returns c =
    let p = c.args.position.now.setup in
    let squares = c.squares_at-from in
    as_pairs (CatchesLion p) c.args.place c.step_between.result
    (subst (IsFoundAt (CatchesLion p) c.step_between.result) squares.ensures.place
    (step_answer AtLion p squares.result.0 squares.result.1 c.step_between.result squares.ensures.first squares.ensures.last c.step_between.ensures))
