-- The places of the numbers so far.
use Rattle.dob_rank.specs.Placing.{AreSomePlaces}
use Rattle.dob_classes.proofs.place_tables.all_places.Given as goal

abbrev pub invariant-loop-number : goal.invariant-loop-number
invariant-loop-number l = AreSomePlaces l.on_board l.number l.table.items
