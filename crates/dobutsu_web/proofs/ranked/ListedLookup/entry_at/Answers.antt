-- The position of that rank stands for the entry.
use Rattle.dobutsu_web.proofs.Ranks.{stands_for, within_ranks}
use Rattle.dobutsu_web.proofs.ranked.ListedLookup.entry_at.Goals as goal

pub position_at-requires-clause-within : goal.position_at-requires-clause-within
position_at-requires-clause-within c =
    within_ranks c.args.self.now.family c.args.self.now.ranks.now c.args.self.now.plies.now c.args.place c.requires.within

pub plies_at-requires-clause-within : goal.plies_at-requires-clause-within
plies_at-requires-clause-within c =
    within_ranks c.args.self.now.family c.args.self.now.ranks.now c.args.self.now.plies.now c.args.place c.requires.within

pub returns : goal.returns
returns c =
    let listed = c.args.self.now in
    let within = within_ranks listed.family listed.ranks.now listed.plies.now c.args.place c.requires.within in
    rw (← c.requires.stands.0, c.of-position.ensures, c.position_at.ensures, c.plies_at.ensures) (stands_for listed.family listed.ranks.now listed.plies.now c.requires.stands.1 c.args.place within)
