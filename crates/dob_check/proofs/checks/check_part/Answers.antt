-- What is found of its classes, and what the watch learns of them.
use Rattle.dob_check.proofs.Common.{◌-◌, arith}
use Rattle.dob_check.proofs.Places.{told_in}
use Rattle.dob_check.proofs.checks.check_part.Goals as goal

pub returns : goal.returns
returns g c =
    let bounds = c.part_bounds-first.ensures in record {
      verdict = rw (bounds.first, bounds.end) at c.check_classes-verdict.ensures;
      told = told_in c.args.table.now.values c.args.place c.requires.begins (g.W.Watch.told c.args.watch.now)
          (c.part_bounds-first.result.1 - c.part_bounds-first.result.0) (omega (arith, bounds.first, bounds.end)) c.report.ensures;
    }
