-- By the value table no position's line breaks off.
use Rattle.dob_probe.proofs.Best.{none_breaks}
use Rattle.dob_probe.proofs.laws.none_breaks.Goals as goal

pub returns : goal.returns
returns c = none_breaks
