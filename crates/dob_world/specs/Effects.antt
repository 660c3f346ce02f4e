-- What an event makes of a world that the program keeps: it is done, skipped, or stops its node.
use Rattle.std.specs.Prelude.{◌≡◌}
use Rattle.dob_world.specs.declared.event.Event.{Event}
use Rattle.dob_share.specs.declared.build_fault.BuildFault.{BuildFault}
use Rattle.dob_world.specs.declared.world.World.{World}
use Rattle.dob_world.specs.Events.{CanHappen, Happens}
use Rattle.dob_world.specs.Stops.{IsStopBy, IsLeftBy}
use Rattle.dob_world.specs.Shown.{setting_of, state_of}
use Rattle.dob_world.specs.Standing.{WillStand}

-- the world keeps all that it has
pub record IsWorldUnchanged (old new : World) : Type 0 where
  pub setting : setting_of new ≡ setting_of old
  pub nodes : new.nodes.items ≡ old.nodes.items
  pub lanes : new.lanes.items ≡ old.lanes.items
  pub detector : new.detector ≡ old.detector
  pub steps : new.steps ≡ old.steps
  pub failed : new.failed ≡ old.failed

-- the event was possible and is done
pub record IsMade (event : Event) (old new : World) : Type 0 where
  pub setting : setting_of new ≡ setting_of old
  pub can : CanHappen (setting_of old) (state_of old) event
  pub happens : Happens (setting_of old) (state_of old) event (state_of new)

-- It is done, the step isn't counted yet, and the world stands once it is.
pub record IsEventDone (event : Event) (old new : World) : Type 0 where
  pub made : IsMade event old new
  pub stands : WillStand new
  pub same : (new.failed ≡ old.failed) × (new.steps ≡ old.steps)

-- It was impossible, and is skipped.
pub record IsSkipped (event : Event) (old new : World) : Type 0 where
  pub cannot : ¬ CanHappen (setting_of old) (state_of old) event
  pub unchanged : IsWorldUnchanged old new

-- It was possible, and has stopped its node: counts, colours, token and the number of steps are as before it.
pub record IsStopped (event : Event) (fault : BuildFault) (old new : World) : Type 0 where
  pub setting : setting_of new ≡ setting_of old
  pub stop : IsStopBy (setting_of old) (state_of old) event fault
  pub left : IsLeftBy (setting_of old) (state_of old).world event fault (state_of new).world
  pub same : (new.detector ≡ old.detector) × (new.steps ≡ old.steps)
