-- A representative is its own.
use Rattle.dobutsu_web.proofs.Ranks.{first_by}
use Rattle.dobutsu_web.proofs.ranked.is_first.Goals as goal

pub returns : goal.returns
returns c =
    let earlier = c.rank_of_earlier.ensures in
    first_by c.args.family c.args.here c.unrank-position.result.setup earlier.0 c.requires c.unrank-position.ensures.position
    c.unrank-position.ensures.number earlier.1 earlier.2 c.rank_of_earlier.result earlier.3
