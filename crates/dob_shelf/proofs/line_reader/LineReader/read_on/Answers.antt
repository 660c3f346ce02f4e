-- What was given is found at the line's place. The search finds this by itself, but only after its limit.
use Rattle.std.proofs.Common.{arith}
use Rattle.std.proofs.lemmas.Grind.{common_steps}
use Rattle.dob_shelf.proofs.line_reader.LineReader.read_on.Goals as goal

pub returns-clause-given : goal.returns-clause-given
returns-clause-given g c = grind (arith, common_steps)
