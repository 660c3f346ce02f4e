-- The hands of both sides.
use Rattle.std.proofs.Common.{rules}
use Rattle.dob_rank.proofs.set_ranks.hands_of.Goals as goal

pub returns : goal.returns
returns c = search rules fits 100
