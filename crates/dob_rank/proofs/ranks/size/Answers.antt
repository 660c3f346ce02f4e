-- The positions before the end of the last block are all.
use Rattle.dob_rank.proofs.Common.{subst, sym, HasSize}
use Rattle.dob_rank.proofs.OfFamilies.Present.{HasSize-size_of, size_of-end}
use Rattle.dob_rank.proofs.ranks.size.Goals as goal

pub returns : goal.returns
returns c =
    let is = size_of-end c.args.family _ _ c.blocks-2.ensures.value c.block_start.ensures.value in
    record { count = subst (HasSize c.args.family) (sym is) (HasSize-size_of c.args.family); number = is; bound = c.block_start.ensures.bound }
