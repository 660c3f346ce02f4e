-- A number that no build has is refused.
use Rattle.dob_build.proofs.Building.{refused_number}
use Rattle.dob_build.proofs.builds.node_count.Goals as goal

pub returns-in_default-new-clause-fault : goal.returns-in_default-new-clause-fault
returns-in_default-new-clause-fault g c = refused_number c.args.asked c.in-Some.number c.in-Some.is c.in_default-new.ensures
