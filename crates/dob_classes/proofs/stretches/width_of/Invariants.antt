-- The weight is the product of the bases from the one reached on, and the width that of the bases after a digit reached.
use Rattle.dob_classes.proofs.Common.{◌<◌, ◌≡◌, drop, product, IsWidth}
use Rattle.dob_classes.proofs.stretches.width_of.Given as goal

abbrev pub invariant-loop-i : goal.invariant-loop-i
invariant-loop-i l = record {
  weight_is : l.weight ≡ product (drop l.i l.bases);
  some : 0 < l.weight;
  width_is : IsWidth l.bases l.local l.other l.width;
}
