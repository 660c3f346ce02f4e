-- What is found of all classes is found of the table.
use Rattle.dob_probe.proofs.Verdicts.{answered}
use Rattle.dob_probe.proofs.checks.check.Goals as goal

pub returns : goal.returns
returns c =
    let answer = answered c.args.table.now c.check_classes.result c.family-family.ensures.table (rw c.class_count.ensures.length at c.check_classes.ensures) in record {
      consistent = answer.consistent;
      right = answer.right;
      fault = answer.fault;
      passed = answer.passed;
    }
