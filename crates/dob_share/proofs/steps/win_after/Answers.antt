-- A win that is known already.
use Rattle.std.proofs.Common.{rules}
use Rattle.dob_share.proofs.steps.win_after.Goals as goal

pub returns-else-win-gt0 : goal.returns-else-win-gt0
returns-else-win-gt0 c = search rules fits 100
