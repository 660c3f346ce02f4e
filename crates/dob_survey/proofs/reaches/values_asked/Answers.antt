-- The numbers are those of all codes, where they are asked for.
use Rattle.std.proofs.Common.{arith}
use Rattle.std.proofs.lemmas.Result.{IfOk-weaker}
use Rattle.dob_survey.proofs.reaches.values_asked.Goals as goal

pub returns-then-has_values-clause-asked : goal.returns-then-has_values-clause-asked
returns-then-has_values-clause-asked c = rw c.if-has_values.true c.by_code.ensures

pub returns-then-has_values-clause-few : goal.returns-then-has_values-clause-few
returns-then-has_values-clause-few c =
    IfOk-weaker c.by_code.result _ _ (λ by_code counted. let all = (counted c.requires.0 c.requires.1).all in omega (arith, all)) c.by_code.ensures
