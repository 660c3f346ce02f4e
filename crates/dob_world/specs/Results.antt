-- Which worlds there are, and what a run of events leaves.
use Rattle.std.specs.Prelude.{◌≡◌, ℕ, ◌+◌, ◌-◌, ◌*◌, ◌<◌, ◌≤◌, Bool, true, false, None, Some, List}
use Rattle.dob_update.specs.Batches.{AreSizes}
use Rattle.dob_safra.specs.Laws.{IsSize}
use Rattle.dob_world.specs.declared.event.Event.{Event}
use Rattle.dob_share.specs.declared.build_fault.BuildFault.{BuildFault}
use Rattle.dob_share.specs.declared.build_fault.BuildFault.TheVariants.{Nodes, Sizes, Stopped, Memory}
use Rattle.dob_world.specs.declared.world.World.{World}
use Rattle.dob_world.specs.Worlds.{Setting, State, HaveFallsIn}
use Rattle.dob_world.specs.Runs.{IsAfter, IsAfterSteps}
use Rattle.dob_world.specs.Events.{CanHappen}
use Rattle.dob_world.specs.Rounds.{round_length, round_of, round_front, round_event, rounds_of, IsStill}
use Rattle.dob_world.specs.Headline.{Headline}
use Rattle.dob_world.specs.Stops.{IsStopIn, IsStopInRounds}
use Rattle.dob_world.specs.Shown.{setting_of, state_of}
use Rattle.dob_world.specs.Standing.{IsSetting, IsStanding}
use Rattle.dob_world.specs.Start.{IsWorldStart}

-- Why there is no world of that setting: the first of these that isn't so, or memory is refused where all are.
abbrev pub HasSettingFault : Setting → BuildFault → Type 0
HasSettingFault k Nodes = ¬ IsSize k.n
HasSettingFault k Sizes = IsSize k.n × (¬ AreSizes k.batch k.capacity)
HasSettingFault k (Stopped node why) = ⊥
HasSettingFault k Memory = IsSetting k

-- The world is the opening world changed by the events, in order, it counts how many of them were done, and the promise of the
-- whole holds of it. Each settlement stands first in a fall, and no distance is above the number of classes.
pub record HasRunEvents (k : Setting) (events : List Event) (world : World) : Type 0 where
  pub setting : setting_of world ≡ k
  pub start : State
  pub is_start : IsWorldStart k start
  pub after : IsAfterSteps k start events world.steps (state_of world)
  pub standing : IsStanding world
  pub going : world.failed ≡ None
  pub headline : Headline k (state_of world)
  pub falls : HaveFallsIn k (state_of world).world.nodes

-- The opening world is changed by the events up to one at which a node stops.
pub record HasStoppedAt (k : Setting) (events : List Event) (fault : BuildFault) : Type 0 where
  pub setting : IsSetting k
  pub start : State
  pub is_start : IsWorldStart k start
  pub stop : IsStopIn k start events fault

-- One of the first so many events of a round can happen after those before it.
abbrev pub SomeCan : Setting → State → ℕ → Type 0
SomeCan k state upto = (place : ℕ) × (place < upto) × (between : State) × IsAfter k state (round_front k.n place) between
    × CanHappen k between (round_event k.n place)

-- A round of events is made. The answer is whether none of them was done; then none can happen in the world left, and the
-- end is announced.
pub record HasMadeRound (old : World) (given : Bool) (new : World) : Type 0 where
  pub setting : setting_of new ≡ setting_of old
  pub least : old.steps ≤ new.steps
  pub after : IsAfterSteps (setting_of old) (state_of old) (round_of old.node_count) (new.steps - old.steps) (state_of new)
  pub standing : IsStanding new
  pub going : new.failed ≡ None
  pub steps : new.steps ≤ old.steps + round_length old.node_count
  pub same : given ≡ true → (state_of new ≡ state_of old) × (new.steps ≡ old.steps)
  pub still : given ≡ true → IsStill (setting_of old) (state_of new)
  pub ended : given ≡ true → new.detector.announced ≡ true
  pub busy : given ≡ false → old.steps < new.steps
  pub done : given ≡ false → SomeCan (setting_of old) (state_of old) (round_length old.node_count)

-- Some event of the round after so many rounds is done.
abbrev pub IsBusyRound : Setting → State → ℕ → Type 0
IsBusyRound k state rounds = (before : State) × IsAfter k state (rounds_of k.n rounds) before × SomeCan k before (round_length k.n)

-- None is: the state is that before the round.
abbrev pub IsStillRound : Setting → State → ℕ → State → Type 0
IsStillRound k state rounds new = IsAfter k state (rounds_of k.n rounds) new × IsStill k new

-- The world is driven by that many rounds, each of which has an event that is done, or by fewer: then the last of them has
-- none, each before it has, and the end is announced.
pub record HasDriven (old : World) (rounds : ℕ) (given : Bool) (new : World) : Type 0 where
  pub made : ℕ
  pub few : made ≤ rounds
  pub setting : setting_of new ≡ setting_of old
  pub least : old.steps ≤ new.steps
  pub after : IsAfterSteps (setting_of old) (state_of old) (rounds_of old.node_count made) (new.steps - old.steps) (state_of new)
  pub standing : IsStanding new
  pub going : new.failed ≡ None
  pub steps : new.steps ≤ old.steps + made * round_length old.node_count
  pub before : (round : ℕ) → round + 1 < made → IsBusyRound (setting_of old) (state_of old) round
  pub busy : given ≡ false → (made ≡ rounds) × ((round : ℕ) → round + 1 ≡ made → IsBusyRound (setting_of old) (state_of old) round)
  pub still : given ≡ true → (round : ℕ) × (round + 1 ≡ made) × IsStillRound (setting_of old) (state_of old) round (state_of new)
  pub ended : given ≡ true → new.detector.announced ≡ true

-- The world stops at an event of one of so many rounds, and is what that stop leaves of it.
pub record StopsInRounds (old : World) (rounds : ℕ) (fault : BuildFault) (new : World) : Type 0 where
  pub setting : setting_of new ≡ setting_of old
  pub least : old.steps ≤ new.steps
  pub stop : IsStopInRounds (setting_of old) (state_of old) rounds fault (new.steps - old.steps) (state_of new)
  pub failed : new.failed ≡ Some fault
