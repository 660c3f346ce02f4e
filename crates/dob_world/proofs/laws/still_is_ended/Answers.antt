-- Where no event of a round can happen, the end is announced and the world is at rest.
use Rattle.dob_world.proofs.Driven.{still_is_ended}
use Rattle.dob_world.proofs.laws.still_is_ended.Goals as goal

pub returns : goal.returns
returns c = still_is_ended
