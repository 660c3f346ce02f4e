-- Where a node of a world stops: at which event, for which cause, and what is left of the world then.
use Rattle.std.specs.Prelude.{◌≡◌, ℕ, ◌<◌, ◌⊎◌, List, ◌∷◌, ◌++◌, take, slice_get, Some}
use Rattle.dob_share.specs.declared.news.Item.{Item}
use Rattle.dob_share.specs.Shares.{GoesTooDeep}
use Rattle.dob_update.specs.Batches.{BatchView}
use Rattle.dob_share.specs.declared.cause.Cause.TheVariants as cause
use Rattle.dob_world.specs.declared.event.Event.{Event}
use Rattle.dob_world.specs.declared.event.Event.TheVariants.{Expand, Own, Post, Take, Pass, Announce}
use Rattle.dob_share.specs.declared.build_fault.BuildFault.{BuildFault}
use Rattle.dob_share.specs.declared.build_fault.BuildFault.TheVariants.{Stopped}
use Rattle.dob_world.specs.Worlds.{Setting, Nodes, WorldView, State}
use Rattle.dob_world.specs.Events.{CanHappen, AppliesItems, Stays, LinksStay, OtherLinksStay}
use Rattle.dob_world.specs.Runs.{IsAfter, IsAfterSteps}
use Rattle.dob_world.specs.Rounds.{round_length, round_event, round_front, rounds_of}

-- The first own item of node i goes too deep.
pub record OwnGoesTooDeep (world : WorldView) (i : ℕ) : Type 0 where
  pub item : Item
  pub behind : List Item
  pub first : world.own i ≡ item ∷ behind
  pub deep : GoesTooDeep item (world.nodes.cell item.to)

-- An item of the first batch that waits on the link from i to j goes too deep, once those before it are applied.
pub record TakenGoesTooDeep (k : Setting) (world : WorldView) (i j : ℕ) : Type 0 where
  pub batch : BatchView
  pub batches : List BatchView
  pub first : world.waiting i j ≡ batch ∷ batches
  pub front : List Item
  pub item : Item
  pub behind : List Item
  pub items_are : batch.items ≡ front ++ item ∷ behind
  pub between : Nodes
  pub applied : AppliesItems k i j front world.nodes between
  pub deep : GoesTooDeep item (between.cell item.to)

-- Node j takes the first batch that waits on the link from i up to an item that goes too deep: just the items before that one are
-- applied, in their order, and the batch waits no more.
pub record TakesFront (k : Setting) (i j : ℕ) (old new : WorldView) : Type 0 where
  pub deep : TakenGoesTooDeep k old i j
  pub applied : new.nodes ≡ deep.between
  pub left : new.waiting i j ≡ deep.batches
  pub others : OtherLinksStay i j old.waiting new.waiting
  pub same : Stays old.expanded new.expanded × Stays old.own new.own × LinksStay old.outbox new.outbox × LinksStay old.sent new.sent

-- What stops the node that makes a step at the event: that a growth was refused, or that an item which it applies goes too
-- deep. No node stops as it passes the token or announces the end.
abbrev pub IsCauseOf : Setting → WorldView → Event → BuildFault → Type 0
IsCauseOf k world (Expand i) fault = fault ≡ Stopped i cause.Memory
IsCauseOf k world (Own i) fault = (fault ≡ Stopped i cause.Memory) ⊎ ((fault ≡ Stopped i cause.TooDeep) × OwnGoesTooDeep world i)
IsCauseOf k world (Post i j) fault = fault ≡ Stopped i cause.Memory
IsCauseOf k world (Take i j) fault = (fault ≡ Stopped j cause.Memory) ⊎ ((fault ≡ Stopped j cause.TooDeep) × TakenGoesTooDeep k world i j)
IsCauseOf k world (Pass i) fault = ⊥
IsCauseOf k world Announce fault = ⊥

-- What is left of nodes and links after that: what there was before the event, but of a batch with an item that goes too deep what was
-- taken.
abbrev pub IsLeftBy : Setting → WorldView → Event → BuildFault → WorldView → Type 0
IsLeftBy k old (Expand i) fault new = new ≡ old
IsLeftBy k old (Own i) fault new = new ≡ old
IsLeftBy k old (Post i j) fault new = new ≡ old
IsLeftBy k old (Take i j) fault new = ((fault ≡ Stopped j cause.Memory) × (new ≡ old)) ⊎ ((fault ≡ Stopped j cause.TooDeep) × TakesFront k i j old new)
IsLeftBy k old (Pass i) fault new = new ≡ old
IsLeftBy k old Announce fault new = new ≡ old

-- a node has stopped since a growth was refused
abbrev pub IsForMemory : BuildFault → Type 0
IsForMemory fault = (node : ℕ) × (fault ≡ Stopped node cause.Memory)

-- The event could happen, and it stops its node in its place.
abbrev pub IsStopBy : Setting → State → Event → BuildFault → Type 0
IsStopBy k state event fault = CanHappen k state event × IsCauseOf k state.world event fault

-- Some event of some state stops a node so; thus never because an item contradicts its cell.
abbrev pub IsStop : BuildFault → Type 0
IsStop fault = (k : Setting) × (state : State) × (event : Event) × IsStopBy k state event fault

-- One of the events stops a node, after those before it.
pub record IsStopIn (k : Setting) (start : State) (events : List Event) (fault : BuildFault) : Type 0 where
  pub place : ℕ
  pub event : Event
  pub there : slice_get events place ≡ Some event
  pub state : State
  pub after : IsAfter k start (take place events) state
  pub stop : IsStopBy k state event fault

-- An event of one of so many rounds stops a node, after the rounds before it and the events before it in its own, so many of which are
-- done; that state is left, with the ring as it was before the event.
pub record IsStopInRounds (k : Setting) (start : State) (rounds : ℕ) (fault : BuildFault) (done : ℕ) (new : State) : Type 0 where
  pub made : ℕ
  pub few : made < rounds
  pub place : ℕ
  pub low : place < round_length k.n
  pub state : State
  pub after : IsAfterSteps k start (rounds_of k.n made ++ round_front k.n place) done state
  pub stop : IsStopBy k state (round_event k.n place) fault
  pub left : IsLeftBy k state.world (round_event k.n place) fault new.world
  pub ring : new.ring ≡ state.ring
