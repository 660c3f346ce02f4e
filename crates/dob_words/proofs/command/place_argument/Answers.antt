-- Each call sets one part of the rule.
use Rattle.std.proofs.Common.{arith}
use Rattle.dob_words.proofs.command.place_argument.Goals as goal

pub returns-in-Any : goal.returns-in-Any
returns-in-Any c = grind arith

pub returns-in-Number : goal.returns-in-Number
returns-in-Number c = grind arith

pub returns-in-Profile : goal.returns-in-Profile
returns-in-Profile c = grind arith
