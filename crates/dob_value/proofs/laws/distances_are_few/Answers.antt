-- The law, from the lemma that each lesser distance is some entry's too.
use Rattle.dob_value.proofs.Bounds.{distances_are_few}
use Rattle.dob_value.proofs.laws.distances_are_few.Goals as goal

pub returns : goal.returns
returns c = distances_are_few
