-- The law.
use Rattle.dob_zugzwang.proofs.Promised.{listed as law}
use Rattle.dob_zugzwang.proofs.laws.each_is_listed.Goals as goal

pub returns : goal.returns
returns c = law
