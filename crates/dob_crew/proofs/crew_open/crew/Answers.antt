-- Sizes outside their limits are why no crew is opened, or the crew is opened for those sizes.
use Rattle.dob_crew.proofs.Common.{carried, IsNewCrew, HasCrewFault}
use Rattle.dob_crew.proofs.CrewRunners.{sized, outside_none}
use Rattle.dob_crew.proofs.crew_open.crew.Goals as goal

pub returns-in_err-sizes-clause-fault : goal.returns-in_err-sizes-clause-fault
returns-in_err-sizes-clause-fault g c =
    let fault = c.in_err-sizes.field-0.0 in
    carried (HasCrewFault c.args.nodes c.args.batch_size c.args.capacity) c.from_residual.result fault c.from_residual.ensures.1
    (outside_none c.args.nodes c.args.batch_size c.args.capacity fault c.in_err-sizes.ensures.fault)

pub returns-clause-opened : goal.returns-clause-opened
returns-clause-opened g c =
    sized (λ n size capacity. IsNewCrew c.args.classes.now.family n size capacity c.in_ok-opened.opened.0 c.in_ok-opened.opened.1.items)
    c.args.nodes c.args.batch_size c.args.capacity c.in_ok-sizes.sizes c.in_ok-sizes.ensures.sizes c.in_ok-opened.ensures
