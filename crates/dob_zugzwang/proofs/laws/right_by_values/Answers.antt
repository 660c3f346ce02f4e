-- The law.
use Rattle.dob_zugzwang.proofs.Promised.{by_values as law}
use Rattle.dob_zugzwang.proofs.laws.right_by_values.Goals as goal

pub returns : goal.returns
returns c = law
