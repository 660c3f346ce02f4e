-- The numbers on the board are few, and the run is one of theirs.
use Rattle.dob_classes.proofs.Common.{AreFewOnBoard-digits, HasDigits-numbers, run_in_bases}
use Rattle.dob_classes.proofs.run_shapes.shape_of.Goals as goal

pub choices_in-choices-requires : goal.choices_in-choices-requires
choices_in-choices-requires c = AreFewOnBoard-digits c.args.set _ (HasDigits-numbers c.args.set c.args.block _ c.requires.block c.numbers_in-on_board.ensures)

pub run_digits_in-digits-requires : goal.run_digits_in-digits-requires
run_digits_in-digits-requires c = record {
  on_board = HasDigits-numbers c.args.set c.args.block _ c.requires.block c.numbers_in-on_board.ensures;
  run = run_in_bases c.args.set c.args.block c.args.run _ c.numbers_in-on_board.ensures c.requires.run;
}
