-- The crew of so many nodes has built, or the fault says why not.
use Rattle.dob_build.proofs.Building.{built_or_not}
use Rattle.dob_build.proofs.builds.run_watched.Goals as goal

pub returns : goal.returns
returns g c = built_or_not c.args.family c.args.nodes c.build_by-built.result (c.build_by-built.ensures c.args.nodes 256 64 c.usual-sizes.ensures)
