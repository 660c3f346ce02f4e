-- By `--each` the order is for each line.
use Rattle.std.proofs.Common.{arith}
use Rattle.dob_words.proofs.Matches.{each_read}
use Rattle.dob_words.proofs.command.orders.asked_order.Goals as goal

pub returns-in-None : goal.returns-in-None
returns-in-None c =
    each_read c.args.asked c.args.inner.now c.text-file.result c.text-file.ensures (rw c.in-None.is at c.in_ok-position.ensures) c.requires.flagged

pub returns-in_err-position : goal.returns-in_err-position
returns-in_err-position c = grind arith

pub returns-in-Some : goal.returns-in-Some
returns-in-Some c = grind arith
