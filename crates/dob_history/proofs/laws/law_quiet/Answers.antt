-- Where nodes are quiet and their histories' values are gathered, these are the value table.
use Rattle.dob_history.proofs.Rest.{quiet_is_right}
use Rattle.dob_history.proofs.laws.law_quiet.Goals as goal

pub returns : goal.returns
returns c = quiet_is_right
