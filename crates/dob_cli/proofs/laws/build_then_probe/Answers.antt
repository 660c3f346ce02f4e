-- The file of a build that was done is that of a value table.
use Rattle.dob_cli.proofs.Composition.{build_then_probe}
use Rattle.dob_cli.proofs.laws.build_then_probe.Goals as goal

pub returns : goal.returns
returns g c = build_then_probe (g.S.Shelf.state c.args.before.now) (g.S.Shelf.state c.args.built.now) (g.S.Shelf.state c.args.probed.now)
