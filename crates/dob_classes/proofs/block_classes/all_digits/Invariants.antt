-- The runs so far have their digits.
use Rattle.dob_classes.proofs.block_classes.all_digits.Given as goal
use Rattle.dob_classes.specs.RunTables.{AreDigits}

abbrev pub invariant-loop-run : goal.invariant-loop-run
invariant-loop-run l = AreDigits l.set l.on_board l.run l.digits.items
