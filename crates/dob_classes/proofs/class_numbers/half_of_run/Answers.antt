-- The run's own images are counted by its pieces and its lions, and its classes are half of these and of all.
use Rattle.std.proofs.Common.{◌≡◌, ◌∙◌, ap, arith}
use Rattle.dob_classes.proofs.Common.{AreFewOnBoard-digits, HasDigits-numbers, is_there, marks_below, run_size_in}
use Rattle.dob_classes.proofs.MarksOfRuns.EvenRuns.{marks_half, own_images_are}
use Rattle.dob_classes.proofs.MarksOfRuns.FamilyMarks.{run_size_in-small}
use Rattle.dob_classes.proofs.class_numbers.half_of_run.Goals as goal
use Rattle.dob_classes.proofs.class_numbers.half_of_run.Goals.{After-count_before-all}

all_is : (c : After-count_before-all) → c.count_before-all.result ≡ run_size_in c.args.family c.args.block c.args.run
all_is c = c.count_before-all.ensures ∙ ap (marks_below (is_there c.args.family c.args.block c.args.run)) c.requires.size

pub even_ways-own-requires : goal.even_ways-own-requires
even_ways-own-requires c = record {
  few = AreFewOnBoard-digits c.args.family.set _
      (HasDigits-numbers c.args.family.set c.args.block c.numbers_in-on_board.result c.requires.block c.numbers_in-on_board.ensures);
  lions = omega arith;
  kind = c.requires.kind;
}

pub overflow_add-result : goal.overflow_add-result
overflow_add-result c =
    let all = all_is (goal.at.overflow_add-result c).After-count_before-all in
    let small = run_size_in-small c.args.family c.args.block c.args.run c.requires.block in
    omega (arith, all, small, c.even_ways-own.ensures.bound)

pub returns : goal.returns
returns c =
    let all = all_is (goal.at.returns c).After-count_before-all in
    let half = marks_half c.args.family c.args.block c.args.run c.requires.block c.requires.run c.requires.kind in
    let own = own_images_are c.args.family c.args.block c.args.run c.numbers_in-on_board.result c.requires.block c.requires.run c.requires.kind
    c.numbers_in-on_board.ensures in
    omega (arith, all, half, own, c.even_ways-own.ensures.value)
