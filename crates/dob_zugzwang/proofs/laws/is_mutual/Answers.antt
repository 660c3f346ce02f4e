-- The law.
use Rattle.dob_zugzwang.proofs.Promised.{mutual_turn as law}
use Rattle.dob_zugzwang.proofs.laws.is_mutual.Goals as goal

pub returns : goal.returns
returns c = law
