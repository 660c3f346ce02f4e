-- Each rank is an entry.
use Rattle.dobutsu_web.proofs.Ranks.{length-entries}
use Rattle.dobutsu_web.proofs.ranked.ListedLookup.count.Goals as goal

pub returns : goal.returns
returns c = length-entries c.args.self.now.family c.args.self.now.ranks.now c.args.self.now.plies.now
