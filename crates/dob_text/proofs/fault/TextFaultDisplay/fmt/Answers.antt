-- The text of a hand that is none.
use Rattle.std.proofs.Common.{rules}
use Rattle.dob_text.proofs.fault.TextFaultDisplay.fmt.Goals as goal

pub returns-in-Hand-clause-writes : goal.returns-in-Hand-clause-writes
returns-in-Hand-clause-writes c = search rules fits 100
