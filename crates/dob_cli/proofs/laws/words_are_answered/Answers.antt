-- The order that was read is the one that the words ask for.
use Rattle.dob_cli.proofs.Composition.{words_answered}
use Rattle.dob_cli.proofs.laws.words_are_answered.Goals as goal

pub returns : goal.returns
returns g c = words_answered (g.S.Shelf.state c.args.before.now) (g.S.Shelf.state c.args.after.now)
