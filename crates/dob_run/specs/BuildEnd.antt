-- A crew whose runners have all stopped, and what is made of it.
use Rattle.std.specs.Prelude.{◌≡◌, ◌≢◌, ℕ, ◌<◌, ◌⊎◌, List, None, Some, slice_get}
use Rattle.dob_pieces.specs.declared.profile.Family.{Family}
use Rattle.dob_board.specs.declared.halt.Halt.{Halt}
use Rattle.dob_board.specs.declared.halt.Halt.TheVariants.{Running, Ended, Failed}
use Rattle.dob_share.specs.declared.cause.Cause.{Cause}
use Rattle.dob_node.specs.declared.node.Node.{Node}
use Rattle.dob_share.specs.declared.share.Share.{Share}
use Rattle.dob_share.specs.declared.build_fault.BuildFault.{BuildFault}
use Rattle.dob_share.specs.declared.build_fault.BuildFault.TheVariants.{Nodes, Sizes, Stopped, Memory}
use Rattle.dob_runner.specs.declared.runner.Runner.{Runner}

-- The runner works for that family with batches of at most that size, and its seat knows that the run ended or failed.
pub record IsStoppedRunner (family : Family) (size : ℕ) (runner : Runner) : Type 0 where
  pub family_is : runner.family ≡ family
  pub size_is : runner.batch_size ≡ size
  pub halted : runner.endpoint.seat.stand.halt ≢ Running

-- so has each of them
abbrev pub HaveStopped : Family → ℕ → List Runner → Type 0
HaveStopped family size runners = (k : ℕ) (runner : Runner) → slice_get runners k ≡ Some runner → IsStoppedRunner family size runner

-- the share of a node
abbrev pub share_in : Node → Share
share_in node = node.share

-- each seat knows of that halt
abbrev pub AllKnow : Halt → List Runner → Type 0
AllKnow halt runners = (k : ℕ) (runner : Runner) → slice_get runners k ≡ Some runner → runner.endpoint.seat.stand.halt ≡ halt

-- no runner before that one has failed
abbrev pub IsLeastFailed : List Runner → ℕ → Type 0
IsLeastFailed runners node = (k : ℕ) (runner : Runner) → k < node → slice_get runners k ≡ Some runner → runner.failed ≡ None

-- The runner of the node has failed, for that cause: either each seat knows that this node failed the run; or each knows that
-- the run ended, and of the runners that failed all the same it is the least.
pub record IsFailure (runners : List Runner) (node : ℕ) (why : Cause) : Type 0 where
  pub runner : Runner
  pub at : slice_get runners node ≡ Some runner
  pub cause : runner.failed ≡ Some why
  pub known : AllKnow (Failed node) runners ⊎ (AllKnow Ended runners × IsLeastFailed runners node)

-- no node has failed so
abbrev pub AreFailureless : List Runner → Type 0
AreFailureless runners = (node : ℕ) (why : Cause) → ¬ IsFailure runners node why

-- why a crew that has stopped leaves no table: a node's failure; or where there is none, memory is refused
abbrev pub IsFailureOf : List Runner → BuildFault → Type 0
IsFailureOf runners (Stopped node why) = IsFailure runners node why
IsFailureOf runners Memory = AreFailureless runners
IsFailureOf runners Nodes = ⊥
IsFailureOf runners Sizes = ⊥
