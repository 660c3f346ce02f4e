-- By the value table a position's line is the best line, that by the values by definition.
use Rattle.dob_probe.proofs.Best.{lines_are_best}
use Rattle.dob_probe.proofs.laws.lines_are_best.Goals as goal

pub returns : goal.returns
returns c = lines_are_best
