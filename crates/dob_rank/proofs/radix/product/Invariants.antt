-- The weight is the product of the bases from the one reached on.
use Rattle.dob_rank.proofs.Common.{◌≡◌, drop, product}
use Rattle.dob_rank.proofs.radix.product.Given as goal

abbrev pub invariant-loop-i : goal.invariant-loop-i
invariant-loop-i l = l.weight ≡ product (drop l.i l.bases)
