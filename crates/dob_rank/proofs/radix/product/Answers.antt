-- No product of fewer bases is greater, so that nothing overflows.
use Rattle.std.proofs.Common.{◌^◌, arith}
use Rattle.dob_rank.proofs.Positions.Loops.{product_fits}
use Rattle.dob_rank.proofs.radix.product.Goals as goal

pub overflow_mul-weight : goal.overflow_mul-weight
overflow_mul-weight c = omega (
  arith,
  product_fits c.args.bases.now c.loop-i.i c.loop-i.weight
      (2 ^ 64) c.requires.positive c.requires.fits c.loop-i-test.true c.loop-i.auto.i c.loop-i.invariant,
)
