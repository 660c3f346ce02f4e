-- Laws of worlds, of which `src/laws.rt` has one function each.
use Rattle.std.specs.Prelude.{◌≡◌, ◌≢◌, ℕ, ◌^◌, ◌<◌, ◌≤◌, true, List, ◌∷◌, ◌++◌, length, Some, slice_get}
use Rattle.dob_pieces.specs.Lists.{IsBeginning}
use Rattle.dob_rank.specs.Families.{classes_of}
use Rattle.dob_distance.specs.declared.value.Value.{Value}
use Rattle.dob_value.specs.Follows.{IsValueTable}
use Rattle.dob_share.specs.declared.news.Item.{Item}
use Rattle.dob_share.specs.declared.opening.Opening.{Opening}
use Rattle.dob_update.specs.Batches.{BatchView}
use Rattle.dob_history.specs.Openings.{AreOpenings}
use Rattle.dob_history.specs.Lawful.{CanApply}
use Rattle.dob_safra.specs.Laws.{IsSize}
use Rattle.dob_world.specs.declared.event.Event.{Event}
use Rattle.dob_world.specs.Worlds.{Setting, Nodes, WorldView, State, value_in, items_in, AreLawful, IsLinked, IsAtRest, Matches}
use Rattle.dob_world.specs.Events.{CanHappen, Happens, WorldMayEnd, AppliesItems}
use Rattle.dob_world.specs.Runs.{IsAfter}
use Rattle.dob_world.specs.Rounds.{IsStill}
use Rattle.dob_world.specs.Headline.{IsSilent, Headline}
use Rattle.dob_world.specs.Standing.{IsSetting, HasAtMost}
use Rattle.dob_world.specs.Start.{IsWorldStart}

-- each event leaves a lawful and linked world so
abbrev pub HappeningKeepsAll : Type 0
HappeningKeepsAll = (k : Setting) (old new : State) (event : Event) → 0 < k.n → AreLawful k old.world.nodes → IsLinked k old.world →
    CanHappen k old event → Happens k old event new → AreLawful k new.world.nodes × IsLinked k new.world

-- so do events one after another, done or skipped
abbrev pub EventsKeepAll : Type 0
EventsKeepAll = (k : Setting) (old new : State) (events : List Event) → 0 < k.n → AreLawful k old.world.nodes → IsLinked k old.world →
    IsAfter k old events new → AreLawful k new.world.nodes × IsLinked k new.world

-- Each event leaves a ring that matches its world matching it, while no link has more than 2^40 posted batches.
abbrev pub HappeningKeepsMatch : Type 0
HappeningKeepsMatch = (k : Setting) (old new : State) (event : Event) → IsSize k.n → Matches k old → CanHappen k old event →
    Happens k old event new → HasAtMost k.n (2 ^ 40) new.ring → Matches k new

-- What was sent is a beginning of the items that the history makes, and what was applied is a beginning of what was
-- sent, each item once and in order.
abbrev pub ListsAreBeginnings : Type 0
ListsAreBeginnings = (k : Setting) (world : WorldView) (i j : ℕ) → IsLinked k world → i < k.n → j < k.n → i ≢ j →
    IsBeginning (world.sent i j) (items_in k world.nodes i j) × IsBeginning (world.nodes.applied i j) (world.sent i j)

-- the first own item fits its cell
abbrev pub OwnItemFits : Type 0
OwnItemFits = (k : Setting) (world : WorldView) (i : ℕ) (item : Item) (rest : List Item) → 0 < k.n → AreLawful k world.nodes → IsLinked k world →
    i < k.n → world.own i ≡ item ∷ rest → CanApply k.family k.n i world.nodes.cell item

-- each item of the first batch of a link fits its cell, once those before it are applied
abbrev pub TakenItemFits : Type 0
TakenItemFits = (k : Setting) (world : WorldView) (i j : ℕ) (batch : BatchView) (batches : List BatchView) (front : List Item) (item : Item)
    (behind : List Item) (nodes : Nodes) → 0 < k.n → AreLawful k world.nodes → IsLinked k world → i < k.n → j < k.n → i ≢ j →
    world.waiting i j ≡ batch ∷ batches → batch.items ≡ front ++ item ∷ behind → AppliesItems k i j front world.nodes nodes →
    CanApply k.family k.n j nodes.cell item

-- a lawful and linked world at rest has the value table
abbrev pub RestIsRight : Type 0
RestIsRight = (k : Setting) (world : WorldView) (openings : List Opening) (values : List Value) → 0 < k.n → AreOpenings k.family openings →
    AreLawful k world.nodes → IsLinked k world → IsAtRest k world → length values ≡ classes_of k.family →
    ((class : ℕ) → class < classes_of k.family → slice_get values class ≡ Some (value_in k.n world.nodes class)) → IsValueTable k.family values

-- where the end may be announced, nothing is left to do
abbrev pub EndIsRest : Type 0
EndIsRest = (k : Setting) (state : State) → IsSize k.n → Matches k state → WorldMayEnd k state → IsAtRest k state.world

-- where nothing is left to do, that stays: an event changes nothing of nodes and links
abbrev pub RestStays : Type 0
RestStays = (k : Setting) (old new : State) (event : Event) → IsAtRest k old.world → CanHappen k old event → Happens k old event new →
    new.world ≡ old.world

-- once the end is announced, nothing is left to do
abbrev pub EndIsSilent : Type 0
EndIsSilent = (k : Setting) (state : State) → Matches k state → state.ring.announced ≡ true → IsSilent k state

-- where no event of a round can happen, the end is announced
abbrev pub StillIsEnded : Type 0
StillIsEnded = (k : Setting) (state : State) → IsSetting k → IsLinked k state.world → Matches k state → IsStill k state →
    (state.ring.announced ≡ true) × IsAtRest k state.world

-- the promise of the whole holds after any events, at most 2^40
abbrev pub HeadlineHolds : Type 0
HeadlineHolds = (k : Setting) (start state : State) (events : List Event) → IsSetting k → IsWorldStart k start → length events ≤ 2 ^ 40 →
    IsAfter k start events state → Headline k state
