-- The product of two choices.
use Rattle.dob_rank.proofs.Common.{arith}
use Rattle.dob_rank.proofs.ProfileB.PlaceNumbers.{AreOthers, others_are}
use Rattle.dob_rank.proofs.run_places.others_in.Goals as goal
use Rattle.dob_rank.proofs.run_places.others_in.Goals.{After-choices_in-choices}
use Rattle.dob_rank.proofs.Common.{get_or, ◌*◌}

others : (c : After-choices_in-choices) → AreOthers c.args.on_board.now (get_or c.choices_in-choices.result 1 0 * get_or c.choices_in-choices.result 2 0)
others c = others_are c.args.on_board.now c.choices_in-choices.result c.requires c.choices_in-choices.ensures

pub overflow_mul-result : goal.overflow_mul-result
overflow_mul-result c = (let o = others c in omega (arith, o.value_is, o.few))

pub returns-clause-value : goal.returns-clause-value
returns-clause-value c = (others c).value_is

pub returns-clause-positive : goal.returns-clause-positive
returns-clause-positive c = (let o = others c in omega (arith, o.value_is, o.some))

pub returns-clause-bound : goal.returns-clause-bound
returns-clause-bound c = (let o = others c in omega (arith, o.value_is, o.few))
