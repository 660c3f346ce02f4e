-- The runners of a crew's endpoints.
use Rattle.std.specs.Prelude.{◌≡◌, ℕ, List, None, Some, map, slice_get}
use Rattle.dob_pieces.specs.declared.profile.Family.{Family}
use Rattle.dob_board.specs.declared.board.Blackboard.{Blackboard}
use Rattle.dob_node.specs.declared.node.Node.{Node}
use Rattle.dob_endpoint.specs.declared.endpoint.Endpoint.{Endpoint}
use Rattle.dob_runner.specs.declared.runner.Runner.{Runner}
use Rattle.dob_crew.specs.CrewClose.{IsCrew}
use Rattle.dob_crew.specs.CrewOpen.{IsNewEndpoint}
use Rattle.dob_runner.specs.Runners.{IsNew}
use Rattle.dob_runner.specs.Paces.{kept_member}

abbrev pub endpoint_of : Runner → Endpoint
endpoint_of runner = runner.endpoint

abbrev pub node_of : Runner → Node
node_of runner = runner.node

-- the runner works for that family, with batches of at most that size, and hasn't failed
pub record IsRunnerFor (family : Family) (size : ℕ) (runner : Runner) : Type 0 where
  pub family_is : runner.family ≡ family
  pub size_is : runner.batch_size ≡ size
  pub unfailed : runner.failed ≡ None

-- so does each of them
abbrev pub AreRunnersFor : Family → ℕ → List Runner → Type 0
AreRunnersFor family size runners = (k : ℕ) (runner : Runner) → slice_get runners k ≡ Some runner → IsRunnerFor family size runner

-- it keeps the pace of its crew as the node that it is
abbrev pub KeepsPace : Runner → Type 0
KeepsPace runner = kept_member runner.pace ≡ Some (runner.endpoint.seat.node, runner.endpoint.seat.nodes)

-- it does, and has that endpoint; its node was opened and has made no step; and it keeps pace
abbrev pub IsRunnerOf : Family → ℕ → Endpoint → Runner → Type 0
IsRunnerOf family size endpoint runner =
    (runner.endpoint ≡ endpoint) × IsRunnerFor family size runner × IsNew family runner.node runner.endpoint × KeepsPace runner

-- The board and the runners of n nodes of the family, in order, before their first turn. They cut batches of at most that
-- size, and nothing has gone over their links; their inboxes have that capacity, and each keeps pace.
pub record IsNewCrew (family : Family) (n size capacity : ℕ) (board : Blackboard) (runners : List Runner) : Type 0 where
  pub nodes : board.nodes ≡ n
  pub crew : IsCrew board (map endpoint_of runners)
  pub each : AreRunnersFor family size runners
  pub new : (k : ℕ) (runner : Runner) → slice_get runners k ≡ Some runner → IsNew family runner.node runner.endpoint × IsNewEndpoint capacity runner.endpoint
  pub pace : (k : ℕ) (runner : Runner) → slice_get runners k ≡ Some runner → KeepsPace runner
