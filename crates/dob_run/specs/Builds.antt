-- What a build by threads gives.
use Rattle.std.specs.Prelude.{ℕ, ◌<◌, Bool, List, Result, true, false, IfOk, IfErr, OnOk, map}
use Rattle.dob_pieces.specs.declared.profile.Family.{Family}
use Rattle.dob_board.specs.declared.board.Blackboard.{Blackboard}
use Rattle.dob_board.specs.Seats.{AreWords}
use Rattle.dob_share.specs.declared.build_fault.BuildFault.{BuildFault}
use Rattle.dob_runner.specs.declared.runner.Runner.{Runner}
use Rattle.dob_runner.specs.Runners.{says_no}
use Rattle.dob_runner.specs.TurnLoop.{until_halted}
use Rattle.dob_run.specs.declared.built_table.Built.{Built}
use Rattle.dob_run.specs.Built.{IsBuilt}
use Rattle.dob_run.specs.BuildEnd.{IsFailureOf}
use Rattle.dob_run.specs.CrewStops.{StopsSo, IsUnheld}
use Rattle.dob_crew.specs.CrewClose.{seat_in}
use Rattle.dob_crew.specs.CrewRunners.{endpoint_of}
use Rattle.dob_run.specs.CrewTurns.{HasRun}
use Rattle.dob_run.specs.Faults.{HasBuildFault}

-- The crew that left it: n nodes of the family with batches of at most that size and inboxes of that capacity, which ran until each knew that the run
-- had ended, with a gate that may say no to some nodes. The words are those of its seats.
pub record IsLeftByCrew (No : ℕ → Type 0) (family : Family) (n size capacity : ℕ) (built : Built) : Type 0 where
  pub board : Blackboard
  pub ended : List Runner
  pub ran : HasRun No until_halted family n size capacity board ended
  pub words : AreWords n (map seat_in (map endpoint_of ended)) built.closed.words.items

-- What such a crew gives, with a gate that may answer so: a table, and then the gate let each node go on; or a fault, whose node and cause are those of
-- the failure. No node is held back by a gate that says no to none.
pub record Builds (Says : ℕ → Bool → Type 0) (family : Family) (n size capacity : ℕ) (result : Result Built BuildFault) : Type 0 where
  pub built : IfOk result (IsBuilt family n size)
  pub crew : IfOk result (IsLeftByCrew (says_no Says) family n size capacity)
  pub let_on : OnOk result ((node : ℕ) → node < n → Says node true)
  pub unheld : ((node : ℕ) → ¬ Says node false) → IfErr result IsUnheld
  pub fault : IfErr result (HasBuildFault n size capacity)
  pub stopped : IfErr result (StopsSo IsFailureOf (says_no Says) until_halted family n size capacity)
