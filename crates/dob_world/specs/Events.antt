-- The events of a world: when each can happen, and what it changes. What isn't named stays as it was.
use Rattle.std.specs.Prelude.{◌≡◌, ◌≢◌, ℕ, ◌+◌, ◌<◌, ◌⊎◌, true, false, List, [], ◌∷◌, ◌++◌, length, take, drop, slice_get, Some}
use Rattle.dob_unmove.specs.Edges.{predecessors}
use Rattle.dob_share.specs.declared.news.Settlement.{Settlement}
use Rattle.dob_share.specs.declared.news.Item.{Item}
use Rattle.dob_share.specs.Items.{items_of}
use Rattle.dob_update.specs.Batches.{BatchView}
use Rattle.dob_history.specs.Lawful.{AreAfter, IsOneMore, AreSettled}
use Rattle.dob_world.specs.declared.event.Event.{Event}
use Rattle.dob_safra.specs.declared.event.RingEvent.TheVariants as ring
use Rattle.dob_safra.specs.Rings.{IsAnnounceable, Moved}
use Rattle.dob_world.specs.declared.event.Event.TheVariants.{Expand, Own, Post, Take, Pass, Announce}
use Rattle.dob_world.specs.Worlds.{Setting, Nodes, WorldView, State, IsNodeIdle, value_in}

-- ---- when an event can happen

-- The end may be announced: node 0 is idle, and by the ring it may.
abbrev pub WorldMayEnd : Setting → State → Type 0
WorldMayEnd k state = IsNodeIdle k state.world 0 × IsAnnounceable k.n state.ring true

-- Node i has a settlement that isn't expanded; it has an own item; it isn't j, has something to send to j, and the link
-- to it has fewer batches waiting than its capacity; it isn't j, and a batch waits on the link to it; it has the token and
-- is idle, the end isn't announced, and if it is node 0 the end may not be announced; the end may be announced and isn't.
abbrev pub CanHappen : Setting → State → Event → Type 0
CanHappen k state (Expand i) = (i < k.n) × (state.world.expanded i < length (state.world.nodes.history i))
CanHappen k state (Own i) = (i < k.n) × (0 < length (state.world.own i))
CanHappen k state (Post i j) = (i < k.n) × (j < k.n) × (i ≢ j) × (0 < length (state.world.outbox i j)) × (length (state.world.waiting i j) < k.capacity)
CanHappen k state (Take i j) = (i < k.n) × (j < k.n) × (i ≢ j) × (0 < length (state.world.waiting i j))
CanHappen k state (Pass i) = (i < k.n) × (state.ring.token.at ≡ i) × IsNodeIdle k state.world i × (state.ring.announced ≡ false) × (i ≡ 0 → ¬ WorldMayEnd k state)
CanHappen k state Announce = WorldMayEnd k state × (state.ring.announced ≡ false)

-- ---- what stays
pub record NodesStay (old new : Nodes) : Type 0 where
  pub history : (i : ℕ) → new.history i ≡ old.history i
  pub applied : (i j : ℕ) → new.applied i j ≡ old.applied i j
  pub cell : (class : ℕ) → new.cell class ≡ old.cell class

-- one node's stays, and each node's
abbrev pub StaysElsewhere : {X : Type 0} → ℕ → (ℕ → X) → (ℕ → X) → Type 0
StaysElsewhere i old new = (m : ℕ) → m ≢ i → new m ≡ old m

abbrev pub Stays : {X : Type 0} → (ℕ → X) → (ℕ → X) → Type 0
Stays old new = (m : ℕ) → new m ≡ old m

-- that of each link stays, and that of each link but the one from i to j
abbrev pub LinksStay : {X : Type 0} → (ℕ → ℕ → X) → (ℕ → ℕ → X) → Type 0
LinksStay old new = (m l : ℕ) → new m l ≡ old m l

abbrev pub OtherLinksStay : {X : Type 0} → ℕ → ℕ → (ℕ → ℕ → X) → (ℕ → ℕ → X) → Type 0
OtherLinksStay i j old new = (m l : ℕ) → (m ≢ i) ⊎ (l ≢ j) → new m l ≡ old m l

-- ---- items applied

-- Node j applies an item of node i: it is listed, the cell of its class is changed as it says, and where this changes
-- the class's value the history of j has a settlement more.
pub record Applies (k : Setting) (i j : ℕ) (item : Item) (old new : Nodes) : Type 0 where
  pub listed : IsOneMore i j item old.applied new.applied
  pub cells : AreAfter item old.cell new.cell (value_in k.n old) (value_in k.n new)
  pub settled : AreSettled j item.to (value_in k.n old item.to) (value_in k.n new item.to) old.history new.history

-- it applies items of node i, one after the other
abbrev pub AppliesItems : Setting → ℕ → ℕ → List Item → Nodes → Nodes → Type 0
AppliesItems k i j [] old new = NodesStay old new
AppliesItems k i j (item ∷ items) old new = (between : Nodes) × Applies k i j item old between × AppliesItems k i j items between new

-- ---- what an event changes

-- The next settlement of node i becomes items: those for itself are the last of its own, those for another node are the
-- last of the outbox for it.
pub record ExpandsAt (k : Setting) (i : ℕ) (old new : WorldView) : Type 0 where
  pub settlement : Settlement
  pub is_next : slice_get (old.nodes.history i) (old.expanded i) ≡ Some settlement
  pub expanded : new.expanded i ≡ old.expanded i + 1
  pub own : new.own i ≡ old.own i ++ items_of (predecessors k.family) k.n i settlement
  pub outboxes : (j : ℕ) → j < k.n → j ≢ i → new.outbox i j ≡ old.outbox i j ++ items_of (predecessors k.family) k.n j settlement
  pub others : StaysElsewhere i old.expanded new.expanded × StaysElsewhere i old.own new.own × StaysElsewhere i old.outbox new.outbox
  pub nodes : NodesStay old.nodes new.nodes
  pub links : LinksStay old.waiting new.waiting × LinksStay old.sent new.sent

-- The first own item of node i is applied.
pub record AppliesOwn (k : Setting) (i : ℕ) (old new : WorldView) : Type 0 where
  pub item : Item
  pub first : old.own i ≡ item ∷ new.own i
  pub applied : Applies k i i item old.nodes new.nodes
  pub others : StaysElsewhere i old.own new.own
  pub same : Stays old.expanded new.expanded × LinksStay old.outbox new.outbox
  pub links : LinksStay old.waiting new.waiting × LinksStay old.sent new.sent

-- The first items of the outbox of i for j, as many as a batch holds or all where there are fewer, are the last batch
-- that waits on the link.
pub record Posts (k : Setting) (i j : ℕ) (old new : WorldView) : Type 0 where
  pub batch : BatchView
  pub items : batch.items ≡ take k.batch (old.outbox i j)
  pub left : new.outbox i j ≡ drop k.batch (old.outbox i j)
  pub waits : new.waiting i j ≡ old.waiting i j ++ batch ∷ []
  pub sent : new.sent i j ≡ old.sent i j ++ batch.items
  pub others : OtherLinksStay i j old.outbox new.outbox × OtherLinksStay i j old.waiting new.waiting × OtherLinksStay i j old.sent new.sent
  pub same : Stays old.expanded new.expanded × Stays old.own new.own
  pub nodes : NodesStay old.nodes new.nodes

-- Node j takes the first batch that waits on the link from i, and applies its items in their order.
pub record TakesBatch (k : Setting) (i j : ℕ) (old new : WorldView) : Type 0 where
  pub batch : BatchView
  pub first : old.waiting i j ≡ batch ∷ new.waiting i j
  pub applied : AppliesItems k i j batch.items old.nodes new.nodes
  pub others : OtherLinksStay i j old.waiting new.waiting
  pub same : Stays old.expanded new.expanded × Stays old.own new.own × LinksStay old.outbox new.outbox × LinksStay old.sent new.sent

-- The event makes the new state of the old one. Of the ring's state it changes what the ring's own event does.
abbrev pub Happens : Setting → State → Event → State → Type 0
Happens k old (Expand i) new = ExpandsAt k i old.world new.world × (new.ring ≡ old.ring)
Happens k old (Own i) new = AppliesOwn k i old.world new.world × (new.ring ≡ old.ring)
Happens k old (Post i j) new = Posts k i j old.world new.world × Moved k.n old.ring (ring.Post i j) new.ring
Happens k old (Take i j) new = TakesBatch k i j old.world new.world × Moved k.n old.ring (ring.Take i j) new.ring
Happens k old (Pass i) new = (new.world ≡ old.world) × Moved k.n old.ring (ring.Pass i) new.ring
Happens k old Announce new = (new.world ≡ old.world) × Moved k.n old.ring ring.Announce new.ring
