-- Each hand before has as many as the first one, and by a row nothing wraps.
use Rattle.std.proofs.Common.{◌/◌, ◌%◌, refl, arith}
use Rattle.dob_classes.proofs.Tables.RunTables.{marks_small}
use Rattle.dob_classes.proofs.Counting.ClassesBefore.{by_hands}
use Rattle.dob_classes.proofs.rows.Row.before_run.Goals as goal

pub returns : goal.returns
returns c = λ family block within upto is.
    let sums = by_hands family block c.args.run (c.args.run / 99) (c.args.run % 99) c.args.self.hand c.args.self.run within upto refl refl is.hand_is is.run_is in
    omega (arith, sums.few, sums.sum_is, is.before_is, marks_small family block c.args.run within upto)
