-- The values of the classes so far have their codes.
use Rattle.dob_value.proofs.Common.{◌<◌, All, values_of_codes, AreGiven}
use Rattle.dob_value.proofs.table.Table.from_fn.Given as goal

abbrev pub invariant-loop-class : goal.invariant-loop-class
invariant-loop-class g l = record {
  codes : All (λ code. code < 65536) l.codes;
  given : AreGiven (goal.F-post g l.value_at) l.class (values_of_codes l.codes);
}
