-- The numbers of classes are far below the type's end, and what is written stays.
use Rattle.dobutsu_c.proofs.Common.{◌<◌, ◌∙◌, arith, length, length-set, classes_of-below}
use Rattle.dobutsu_c.proofs.Answered.{one_more_class}
use Rattle.dobutsu_c.proofs.classes.write_classes.Goals as goal

pub overflow_add-first : goal.overflow_add-first
overflow_add-first c =
    let few = classes_of-below c.args.classes.now.family in
    omega (arith, few, c.requires, c.loop-place-test.true)

pub loop-place-preserved : goal.loop-place-preserved
loop-place-preserved c =
    let loop = c.loop-place in
    let within : loop.place < length loop.positions = omega (arith, loop.invariant.size, c.loop-place-test.true) in
    record {
      size = length-set loop.positions loop.place c.shown_position.result ∙ loop.invariant.size;
      shown = one_more_class c.args.classes.now.family c.args.first loop.place loop.positions c.shown_position.result c.class_at.result.setup within
          (c.class_at.ensures.representative, c.class_at.ensures.class) c.shown_position.ensures loop.invariant.shown;
    }
