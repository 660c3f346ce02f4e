-- In profile A a position of the set is one of the family, and its rank is that in the set.
use Rattle.dob_rank.proofs.ProfileB.Unranks.{ranked_in_A, below_in_A, ranked_in_B, below_in_B}
use Rattle.dob_rank.proofs.OfFamilies.FamilyOrder.{only_ranked}
use Rattle.dob_rank.proofs.ranks.unrank.Goals as goal

pub unrank_in_set-requires : goal.unrank_in_set-requires
unrank_in_set-requires c = below_in_A c.args.family c.args.rank c.in-A.is c.requires

pub unrank_in_b-requires : goal.unrank_in_b-requires
unrank_in_b-requires c = below_in_B c.args.family c.args.rank c.in-B.is c.requires

pub returns-in-A : goal.returns-in-A
returns-in-A c =
    let at = ranked_in_A c.args.family c.args.rank c.unrank_in_set.result.setup c.in-A.is c.unrank_in_set.ensures.position c.unrank_in_set.ensures.number in
    record { position = at.position; count = at.count; number = at.rank_is; only = only_ranked c.args.family c.unrank_in_set.result.setup c.args.rank at }

pub returns-in-B : goal.returns-in-B
returns-in-B c =
    let at = ranked_in_B c.args.family c.args.rank c.unrank_in_b.result.setup c.in-B.is c.unrank_in_b.ensures in
    record { position = at.position; count = at.count; number = at.rank_is; only = only_ranked c.args.family c.unrank_in_b.result.setup c.args.rank at }
