use Rattle.std.proofs.lemmas.Grind.{common_steps}
use Rattle.dob_rank.proofs.Common.{arith}
use Rattle.dob_rank.proofs.placing.places_by.Goals as goal

pub returns : goal.returns
returns c = grind (arith, common_steps)
