-- The place of an entry is that of its rank.
use Rattle.dobutsu_web.proofs.Ranks.{broken_within}
use Rattle.dobutsu_web.proofs.verify.broken_in.Goals as goal

pub returns-clause-within : goal.returns-clause-within
returns-clause-within c =
    let listed = c.args.listed.now in
    broken_within c.args.kind listed.family listed.ranks.now listed.plies.now c.first_broken.result c.first_broken.ensures
