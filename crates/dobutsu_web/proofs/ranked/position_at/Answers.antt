-- The position of that rank.
use Rattle.dobutsu_web.proofs.Common.{◌∙◌, slice_index}
use Rattle.dobutsu_web.proofs.Ranks.{ranked_only}
use Rattle.dobutsu_web.proofs.ranked.position_at.Goals as goal

pub returns : goal.returns
returns c =
    let listed = c.args.listed.now in
    ranked_only listed.family (slice_index listed.ranks.now c.args.place) c.unrank.result.setup
    (c.requires.ranks.each c.args.place c.requires.within).below c.unrank.ensures.position (c.unrank.ensures.number ∙ c.from.ensures)
