-- What the runners of a crew are after their turns.
use Rattle.std.specs.Prelude.{◌≡◌, ⊤, ℕ, Bool, true, List, None, Some, slice_get}
use Rattle.std.specs.List.{AllZip}
use Rattle.dob_pieces.specs.declared.profile.Family.{Family}
use Rattle.dob_board.specs.declared.board.Blackboard.{Blackboard}
use Rattle.dob_runner.specs.declared.runner.Runner.{Runner}
use Rattle.dob_runner.specs.declared.turn_loop.Until.{Until}
use Rattle.dob_runner.specs.declared.turn_loop.Until.TheVariants.{Turns, Halted}
use Rattle.dob_runner.specs.TurnLoop.{Ends}
use Rattle.dob_crew.specs.CrewRunners.{IsNewCrew}
use Rattle.dob_crew.specs.Faults.{AreWithin}

-- a gate that may answer so let each node go on that hasn't failed
abbrev pub AreLetOn : (ℕ → Bool → Type 0) → Until → List Runner → Type 0
AreLetOn Says (Turns count) ended = ⊤
AreLetOn Says Halted ended = (k : ℕ) (runner : Runner) → slice_get ended k ≡ Some runner → runner.failed ≡ None → Says k true

-- The runners of a new crew of the family, of sizes within their limits, were to make turns for so long, and have, with a
-- gate that may say no to some nodes.
pub record HasRun (No : ℕ → Type 0) (until : Until) (family : Family) (n size capacity : ℕ) (board : Blackboard) (ended : List Runner) : Type 0 where
  pub within : AreWithin n size capacity
  pub old : List Runner
  pub opened : IsNewCrew family n size capacity board old
  pub ends : AllZip (Ends No until) old ended
