-- What is counted is at most as much as a run has.
use Rattle.std.proofs.Common.{arith}
use Rattle.dob_classes.proofs.Counting.WalkMarks.{walked_few}
use Rattle.dob_classes.proofs.class_walks.MixedRun.walk_to.Goals as goal

pub overflow_add-count : goal.overflow_add-count
overflow_add-count c =
    let count = c.loop-at.invariant.count in
    omega (arith, walked_few c.args.self.now c.step-more.result.0 c.step-more.ensures.walk, count, c.step-more.ensures.count)
