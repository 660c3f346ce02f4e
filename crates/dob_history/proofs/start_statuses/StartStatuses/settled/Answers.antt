-- No more are settled than there are.
use Rattle.dob_history.proofs.Common.{arith, start_status}
use Rattle.dob_history.proofs.Starts.{settled_few}
use Rattle.dob_history.proofs.start_statuses.StartStatuses.settled.Goals as goal

pub returns-clause-bound : goal.returns-clause-bound
returns-clause-bound c =
    omega (arith, settled_few (start_status c.self.inside.statuses) c.self.inside.statuses.places, c.self.invariant.0, c.self.invariant.3)
