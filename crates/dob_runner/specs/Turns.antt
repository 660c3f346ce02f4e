-- What a whole turn of a runner does: its look at the halt, its work, its rest, and what the gate was told.
use Rattle.std.specs.Prelude.{◌≡◌, ◌≢◌, ◌⊎◌, ℕ, ◌-◌, Bool, true, false, None}
use Rattle.dob_board.specs.declared.halt.Halt.{Halt}
use Rattle.dob_board.specs.declared.halt.Halt.TheVariants.{Running}
use Rattle.dob_board.specs.declared.seat.NodeSeat.{NodeSeat}
use Rattle.dob_board.specs.Seats.{IsSameSeat, ObservesHalt, TellsHalt, MovesNothing}
use Rattle.dob_runner.specs.declared.runner.Runner.{Runner}
use Rattle.dob_endpoint.specs.Keeps.{HasSameLinks}
use Rattle.dob_runner.specs.Runners.{KeepsRunner, IsAtRest}
use Rattle.dob_runner.specs.TurnRounds.{Works}
use Rattle.dob_endpoint.specs.TokenMoves.{MovesToken}

-- its node and its links are as they were
pub record HasSameWork (old new : Runner) : Type 0 where
  pub node : new.node ≡ old.node
  pub links : HasSameLinks old.endpoint new.endpoint

-- A runner at rest looked for the token, and moved it if it was there; any other one did nothing.
pub record SeeksToken (old new : Runner) (found : Bool) : Type 0 where
  pub same : HasSameWork old new
  pub rests : IsAtRest old → MovesToken old.endpoint.seat new.endpoint.seat found
  pub stays : (¬ IsAtRest old) → (new.endpoint ≡ old.endpoint) × (found ≡ false)

-- so it did, whether it found the token or not
abbrev pub Rests : Runner → Runner → Type 0
Rests old new = (found : Bool) × SeeksToken old new found

-- What is left of a turn that did something, or nothing: nothing, or the rest.
pub record EndsTurn (did : Bool) (old new : Runner) : Type 0 where
  pub same : HasSameWork old new
  pub busy : did ≡ true → new.endpoint ≡ old.endpoint
  pub idle : did ≡ false → Rests old new

-- It has done a turn's work and what is left of the turn.
pub record HasWorked (old new : Runner) : Type 0 where
  pub worked : Runner
  pub did : Bool
  pub works : Works old worked did
  pub ends : EndsTurn did worked new

-- It has looked at the halt, and done nothing else.
pub record HasSeen (old new : Runner) : Type 0 where
  pub same : HasSameWork old new
  pub observed : ObservesHalt old.endpoint.seat new.endpoint.seat new.endpoint.seat.stand.halt
  pub told : TellsHalt new.endpoint.seat new.endpoint.seat.stand.halt
  pub still : MovesNothing old.endpoint.seat new.endpoint.seat

-- It has made a turn, and the halt is the one that its seat knows: first it looked at the halt word; where it found that the run
-- doesn't go on this is what it found, and it did nothing else; and where the run went on it has done a turn's work.
pub record HasTurned (old new : Runner) (halt : Halt) : Type 0 where
  pub keeps : KeepsRunner old new
  pub unfailed : new.failed ≡ None
  pub halt_is : halt ≡ new.endpoint.seat.stand.halt
  pub looked : NodeSeat
  pub same : IsSameSeat old.endpoint.seat looked
  pub observed : ObservesHalt old.endpoint.seat looked looked.stand.halt
  pub first : looked.stand.halt ≢ Running → halt ≡ looked.stand.halt
  pub before : Runner
  pub before_is : before.endpoint.seat ≡ looked
  pub seen : HasSeen old before
  pub stopped : looked.stand.halt ≢ Running → new ≡ before
  pub went : looked.stand.halt ≡ Running → HasWorked before new

-- what the node has expanded, if anything, a gate was told that may be told so
abbrev pub GateIsTold : (ℕ → ℕ → Type 0) → Runner → Runner → Type 0
GateIsTold Told old new =
    (new.node.expanded ≡ old.node.expanded) ⊎ Told old.endpoint.seat.node (new.node.expanded - old.node.expanded)
