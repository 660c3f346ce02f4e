-- Once the end is announced nothing is left to do, and no event can happen.
use Rattle.dob_world.proofs.Promise.{end_is_silent}
use Rattle.dob_world.proofs.laws.end_is_silent.Goals as goal

pub returns : goal.returns
returns c = end_is_silent
