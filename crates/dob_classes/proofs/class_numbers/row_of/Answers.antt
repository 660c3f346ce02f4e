-- The first hand's classes, all of them and those before the run's lions.
use Rattle.dob_classes.proofs.class_numbers.row_of.Goals as goal

pub returns : goal.returns
returns c = record { before_is = c.requires.before; hand_is = c.classes_of_lions.ensures; run_is = c.classes_of_lions-2.ensures }
