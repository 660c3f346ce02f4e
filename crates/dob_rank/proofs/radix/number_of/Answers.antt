-- Three digits below their bases write a number below the product, and nothing on the way is larger.
use Rattle.std.proofs.Common.{arith}
use Rattle.dob_rank.proofs.Arithmetic.MixedRadix.{number_by_three}
use Rattle.dob_rank.proofs.radix.number_of.Goals as goal

pub overflow_mul-result : goal.overflow_mul-result
overflow_mul-result c = (let is = number_by_three c.args.bases.now c.args.digits.now c.told-bases c.told-digits c.requires.below in
    omega (arith, is.first_low, c.requires.fits))

pub overflow_add-result : goal.overflow_add-result
overflow_add-result c = (let is = number_by_three c.args.bases.now c.args.digits.now c.told-bases c.told-digits c.requires.below in
    omega (arith, is.second_low, c.requires.fits))

pub overflow_mul-result-2 : goal.overflow_mul-result-2
overflow_mul-result-2 c = (let is = number_by_three c.args.bases.now c.args.digits.now c.told-bases c.told-digits c.requires.below in
    omega (arith, is.third_low, c.requires.fits))

pub overflow_add-result-2 : goal.overflow_add-result-2
overflow_add-result-2 c = (let is = number_by_three c.args.bases.now c.args.digits.now c.told-bases c.told-digits c.requires.below in
    omega (arith, is.number_is, is.number_low, c.requires.fits))

pub returns : goal.returns
returns c = (number_by_three c.args.bases.now c.args.digits.now c.told-bases c.told-digits c.requires.below).number_is
