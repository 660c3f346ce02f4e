use Rattle.std.proofs.lemmas.Grind.{common_steps}
use Rattle.dob_rank.proofs.Common.{arith}
use Rattle.dob_rank.proofs.block.local_bases_in.Goals as goal

pub returns : goal.returns
returns c = grind (arith, common_steps)

pub choices_in-choices-requires : goal.choices_in-choices-requires
choices_in-choices-requires c = grind arith

pub power-requires-clause-few : goal.power-requires-clause-few
power-requires-clause-few c = grind arith

pub power-requires-2-clause-few : goal.power-requires-2-clause-few
power-requires-2-clause-few c = grind arith
