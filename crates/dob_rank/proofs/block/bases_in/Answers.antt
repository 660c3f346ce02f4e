-- The bases of a block.
use Rattle.std.proofs.Common.{rules}
use Rattle.dob_rank.proofs.block.bases_in.Goals as goal

pub returns : goal.returns
returns c = search rules fits 100
