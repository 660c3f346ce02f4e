-- A position with a catch is opened as a win in 1.
use Rattle.std.proofs.Common.{rules}
use Rattle.dob_history.proofs.start_statuses.opening_value.Goals as goal

pub returns-in-Caught : goal.returns-in-Caught
returns-in-Caught c = search rules fits 100
