-- Which of a crew's runners have failed, and how a crew that has stopped is named.
use Rattle.std.specs.Prelude.{◌≡◌, ◌≢◌, ⊤, ℕ, ◌<◌, List, Some, None, slice_get}
use Rattle.dob_pieces.specs.declared.profile.Family.{Family}
use Rattle.dob_board.specs.declared.board.Blackboard.{Blackboard}
use Rattle.dob_share.specs.declared.cause.Cause.TheVariants.{Held}
use Rattle.dob_share.specs.declared.build_fault.BuildFault.{BuildFault}
use Rattle.dob_share.specs.declared.build_fault.BuildFault.TheVariants.{Nodes, Sizes, Stopped, Memory}
use Rattle.dob_runner.specs.declared.runner.Runner.{Runner}
use Rattle.dob_runner.specs.declared.turn_loop.Until.{Until}
use Rattle.dob_run.specs.CrewTurns.{HasRun}

-- no runner has failed
abbrev pub AreUnfailed : List Runner → Type 0
AreUnfailed runners = (k : ℕ) (runner : Runner) → slice_get runners k ≡ Some runner → runner.failed ≡ None

-- the least node that has failed, and why
abbrev pub IsFirstFailed : List Runner → BuildFault → Type 0
IsFirstFailed runners (Stopped node why) = (runner : Runner) × (slice_get runners node ≡ Some runner) × (runner.failed ≡ Some why)
    × ((k : ℕ) (other : Runner) → k < node → slice_get runners k ≡ Some other → other.failed ≡ None)
IsFirstFailed runners Nodes = ⊥
IsFirstFailed runners Sizes = ⊥
IsFirstFailed runners Memory = ⊥

-- The crew that was run for so long has stopped, and the fault names which of its runners and why.
pub record HasStoppedTurns (Names : List Runner → BuildFault → Type 0) (No : ℕ → Type 0) (until : Until) (family : Family) (n size capacity : ℕ) (fault : BuildFault) : Type 0 where
  pub board : Blackboard
  pub ended : List Runner
  pub ran : HasRun No until family n size capacity board ended
  pub names : Names ended fault

-- where a node is named the crew has stopped so
abbrev pub StopsSo : (List Runner → BuildFault → Type 0) → (ℕ → Type 0) → Until → Family → ℕ → ℕ → ℕ → BuildFault → Type 0
StopsSo Names No until family n size capacity (Stopped node why) = HasStoppedTurns Names No until family n size capacity (Stopped node why)
StopsSo Names No until family n size capacity Nodes = ⊤
StopsSo Names No until family n size capacity Sizes = ⊤
StopsSo Names No until family n size capacity Memory = ⊤

-- no node of it was held back
abbrev pub IsUnheld : BuildFault → Type 0
IsUnheld (Stopped node why) = why ≢ Held
IsUnheld Nodes = ⊤
IsUnheld Sizes = ⊤
IsUnheld Memory = ⊤
