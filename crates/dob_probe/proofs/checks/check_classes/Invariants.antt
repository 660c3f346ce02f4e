-- The values of the classes so far follow.
use Rattle.dob_probe.specs.Checks.{AllFollow}
use Rattle.dob_probe.proofs.checks.check_classes.Given as goal

abbrev pub invariant-loop-class : goal.invariant-loop-class
invariant-loop-class l = AllFollow l.table l.first l.class
