-- A number below a product has no base 0.
use Rattle.dob_rank.proofs.Arithmetic.MixedRadix.{three}
use Rattle.dob_rank.proofs.radix.three_digits.Goals as goal

pub split-rest-requires : goal.split-rest-requires
split-rest-requires c = (three c.args.bases.now c.args.number c.told-bases c.requires).third_some

pub split-first-requires : goal.split-first-requires
split-first-requires c = (three c.args.bases.now c.args.number c.told-bases c.requires).second_some

pub returns : goal.returns
returns c =
    rw (c.split-first.ensures.quotient, c.split-first.ensures.rest, c.split-rest.ensures.quotient, c.split-rest.ensures.rest)
    (three c.args.bases.now c.args.number c.told-bases c.requires).digits_are
