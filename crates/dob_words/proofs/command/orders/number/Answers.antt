-- A text that is a number is read.
use Rattle.dob_words.proofs.Matches.{never_refused}
use Rattle.dob_words.proofs.command.orders.number.Goals as goal

pub unreachable-requires : goal.unreachable-requires
unreachable-requires c = never_refused c.args.text.now c.parse.result c.in-Err.field-0 c.requires c.parse.ensures.value.0 c.in-Err.is
