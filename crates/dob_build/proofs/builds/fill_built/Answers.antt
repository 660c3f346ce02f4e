-- What the sink takes is the file of the table that was built.
use Rattle.dob_build.proofs.Building.{built_fills}
use Rattle.dob_build.proofs.builds.fill_built.Goals as goal

pub returns : goal.returns
returns g c =
    built_fills c.args.family c.args.nodes c.in_ok-built.built c.in_ok-built.ensures c.in_ok-lines.ensures
    c.fill_with_table.result _ c.fill_with_table.ensures
