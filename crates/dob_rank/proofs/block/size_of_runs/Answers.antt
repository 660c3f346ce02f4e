-- The choices of squares and the forms are few.
use Rattle.std.proofs.Common.{arith}
use Rattle.dob_rank.proofs.InRuns.DigitParts.{AreFewInRun, few_in_run}
use Rattle.dob_rank.proofs.block.size_of_runs.Goals as goal
use Rattle.dob_rank.proofs.block.size_of_runs.Goals.{After-forms_in}

few : (c : After-forms_in) → AreFewInRun c.args.on_board.now c.args.choices.now c.forms_in.result
few c = few_in_run c.args.on_board.now c.args.choices.now _ c.requires.few c.requires.choices c.forms_in.ensures

pub overflow_mul-result : goal.overflow_mul-result
overflow_mul-result c = omega (arith, (few (goal.at.overflow_mul-result c).After-forms_in).one_fits)

pub overflow_mul-result-2 : goal.overflow_mul-result-2
overflow_mul-result-2 c = omega (arith, (few (goal.at.overflow_mul-result-2 c).After-forms_in).two_fits)

pub overflow_mul-result-3 : goal.overflow_mul-result-3
overflow_mul-result-3 c = omega (arith, (few (goal.at.overflow_mul-result-3 c).After-forms_in).three_fits)

pub returns : goal.returns
returns c = let are = few (goal.at.returns c).After-forms_in in record { value = are.size_is; bound = omega (arith, are.three_fits) }
