-- The text of a distance that is too large.
use Rattle.std.proofs.Common.{rules}
use Rattle.dob_distance.proofs.fault.ValueFaultDisplay.fmt.Goals as goal

pub returns-in-TooDeep-clause-writes : goal.returns-in-TooDeep-clause-writes
returns-in-TooDeep-clause-writes c = search rules fits 100
