-- Each call sets one part of the rule.
use Rattle.std.proofs.Common.{arith}
use Rattle.dob_words.proofs.command.flag_argument.Goals as goal

pub returns : goal.returns
returns c = grind arith
