-- The class's representative is the one that its number gives.
use Rattle.std.proofs.Common.{refl}
use Rattle.dob_survey.proofs.zugzwangs.pair_line.Goals as goal

pub returns : goal.returns
returns c = rw (c.in_ok-line.ensures, c.class_at-position.ensures.setup, c.classes.ensures.family) refl
