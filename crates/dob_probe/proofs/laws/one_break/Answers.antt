-- The line of a position breaks off at one class at most.
use Rattle.dob_probe.proofs.Ways.{one_break}
use Rattle.dob_probe.proofs.laws.one_break.Goals as goal

pub returns : goal.returns
returns c = one_break
