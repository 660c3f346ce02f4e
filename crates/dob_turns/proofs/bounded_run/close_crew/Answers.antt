-- Each node has its rows of slots, and the closed parts are what the runners leave.
use Rattle.std.proofs.Common.{map, refl}
use Rattle.dob_crew.specs.CrewClose.{slots_in, slots_out}
use Rattle.dob_crew.specs.CrewRunners.{endpoint_of}
use Rattle.dob_turns.proofs.TurnedCrews.{left_by, rows_long}
use Rattle.dob_turns.proofs.bounded_run.close_crew.Goals as goal

pub workers_of-requires-clause-sending : goal.workers_of-requires-clause-sending
workers_of-requires-clause-sending g c =
    rows_long slots_out _ (map endpoint_of c.args.runners.items) c.in_ok-nodes.nodes.items c.args.runners.items c.in_ok-nodes.ensures.ended.sending refl
    c.in_ok-nodes.ensures.nodes

pub workers_of-requires-clause-taking : goal.workers_of-requires-clause-taking
workers_of-requires-clause-taking g c =
    rows_long slots_in _ (map endpoint_of c.args.runners.items) c.in_ok-nodes.nodes.items c.args.runners.items c.in_ok-nodes.ensures.ended.taking refl
    c.in_ok-nodes.ensures.nodes

pub returns : goal.returns
returns g c =
    left_by c.args.board.nodes c.args.runners.items c.in_ok-nodes.nodes.items (map endpoint_of c.args.runners.items) c.in_ok-nodes.ended _
    c.in_ok-nodes.ensures.nodes refl c.in_ok-nodes.ensures.ended c.in_ok-workers.ensures refl refl
