-- The class's representative is the one that its number gives.
use Rattle.std.proofs.Common.{refl}
use Rattle.dob_survey.proofs.puzzles.push_puzzle.Goals as goal

pub returns : goal.returns
returns c =
    rw (c.in_ok-push_str.ensures.bytes, c.as_str.ensures.value, c.in_ok-line.ensures, c.class_at-position.ensures.setup, c.classes.ensures.family) refl
