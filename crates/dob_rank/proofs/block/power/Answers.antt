-- The first power of a base is the base.
use Rattle.dob_rank.proofs.Positions.Loops.{power_at_one}
use Rattle.dob_rank.proofs.block.power.Goals as goal

pub returns-in-1 : goal.returns-in-1
returns-in-1 c = power_at_one c.args.base c.args.exponent c.in-1.is
