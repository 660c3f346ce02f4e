-- The code of a win, and the value that it stands for.
use Rattle.std.proofs.Common.{rules}
use Rattle.dob_distance.proofs.codes.code_of_value.Goals as goal

pub returns-in-Win-clause-code : goal.returns-in-Win-clause-code
returns-in-Win-clause-code c = search rules fits 100

pub returns-in-Win-clause-back : goal.returns-in-Win-clause-back
returns-in-Win-clause-back c = search rules fits 100
