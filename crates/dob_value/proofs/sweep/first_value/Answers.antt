-- A lion that is caught is a loss in 0 plies.
use Rattle.std.proofs.Common.{rules}
use Rattle.dob_value.proofs.sweep.first_value.Goals as goal

pub returns-in-Caught : goal.returns-in-Caught
returns-in-Caught c = search rules fits 100
