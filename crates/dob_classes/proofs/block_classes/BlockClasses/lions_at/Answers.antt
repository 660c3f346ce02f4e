-- The first run has none of the hand's classes before it, all of them stand before the end of the last, and a later run has no fewer before it.
use Rattle.dob_classes.proofs.Common.{◌+◌, ◌-◌, ◌/◌, ◌≡◌, arith}
use Rattle.dob_classes.proofs.Counting.ClassesBefore.{none_before}
use Rattle.dob_classes.proofs.Counting.RunOfClass.{classes_rise}
use Rattle.dob_classes.proofs.block_classes.BlockClasses.lions_at.Goals as goal
use Rattle.dob_classes.proofs.block_classes.BlockClasses.lions_at.Goals.{then-before_lions-left, else-before_lions-left}

pub loop-runs-init : goal.loop-runs-init
loop-runs-init c =
    let block = c.args.self.now in
    let none = none_before block.family block.number in
    record {
      some = omega arith;
      within = omega arith;
      low_is = omega (arith, none, block.starts);
      high_is = omega (arith, block.hands, c.requires);
    }

pub loop-runs-preserved : goal.loop-runs-preserved
loop-runs-preserved c =
    let block = c.args.self.now in
    let kept = c.loop-runs.invariant in
    let low = c.loop-runs.low in
    let half = c.loop-runs.runs / 2 in
    let left = c.loop-runs.runs - c.loop-runs.runs / 2 in
    let test = c.loop-runs-test.true in
    let read = c.before_lions.ensures in
    elim c.if-before_lions-left.branch [
      | then-before_lions-left w ↦
          let same : low + half + left ≡ low + c.loop-runs.runs = omega arith in
          rw w.low-is (record {
            some = omega (arith, test);
            within = omega (arith, same, kept.within);
            low_is = omega (arith, read, w.if-before_lions-left.true);
            high_is = rw same kept.high_is;
          })
      | else-before_lions-left w ↦
          let rise = classes_rise block.family block.number (low + half) (low + left) (omega arith) in
          rw w.low-is (record {
            some = omega (arith, test);
            within = omega (arith, kept.within);
            low_is = kept.low_is;
            high_is = omega (arith, read, w.if-before_lions-left.false, rise);
          })
    ]
