-- Where a position has a line by the table, it breaks off nowhere.
use Rattle.dob_probe.proofs.Ways.{lines_dont_break}
use Rattle.dob_probe.proofs.laws.lines_dont_break.Goals as goal

pub returns : goal.returns
returns c = lines_dont_break
