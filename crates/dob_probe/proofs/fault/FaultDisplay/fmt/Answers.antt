-- The text of a table that is inconsistent.
use Rattle.std.proofs.Common.{rules}
use Rattle.dob_probe.proofs.fault.FaultDisplay.fmt.Goals as goal

pub returns-in-Inconsistent-clause-writes : goal.returns-in-Inconsistent-clause-writes
returns-in-Inconsistent-clause-writes c = search rules fits 100
