-- A file of a family is as long as its classes need.
use Rattle.dobutsu_c.proofs.Common.{arith, classes_of-below}
use Rattle.dobutsu_c.proofs.Indexed.{long_classes}
use Rattle.dobutsu_c.proofs.by_index.held_as_long.Goals as goal

pub returns-then-classes-gt-MOST_CLASSES : goal.returns-then-classes-gt-MOST_CLASSES
returns-then-classes-gt-MOST_CLASSES c = λ format family is.
    let few = classes_of-below family in
    let same = long_classes c.args.file.now format family is in
    omega (arith, few, same, c.classes_by_length-classes.ensures, c.if-classes-gt-MOST_CLASSES.true)
