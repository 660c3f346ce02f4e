-- The status of a distance that is too large.
use Rattle.std.proofs.Common.{rules}
use Rattle.dob_files.proofs.fault.ProgramFault.status.Goals as goal

pub returns-in-TooDeep : goal.returns-in-TooDeep
returns-in-TooDeep c = search rules fits 100
