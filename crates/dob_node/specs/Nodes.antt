-- A node as it is opened, and what its steps make of it.
use Rattle.std.specs.Prelude.{◌≡◌, ◌≢◌, ℕ, ◌+◌, ◌*◌, ◌<◌, ◌≤◌, ◌↔◌, List, [], ◌∷◌, ◌++◌, length, slice_get, None, Some}
use Rattle.dob_pieces.specs.declared.profile.Family.{Family}
use Rattle.dob_distance.specs.declared.value.Value.{Value}
use Rattle.dob_unmove.specs.Edges.{predecessors}
use Rattle.dob_share.specs.declared.news.Settlement.{Settlement}
use Rattle.dob_share.specs.declared.news.Item.{Item}
use Rattle.dob_share.specs.declared.opening.Opening.{Opening}
use Rattle.dob_share.specs.declared.share.Share.{Share}
use Rattle.dob_share.specs.Owners.{class_of_place}
use Rattle.dob_share.specs.Cells.{SameCell, fresh}
use Rattle.dob_share.specs.Openings.{opening_of}
use Rattle.dob_share.specs.Shares.{places_of, IsOwn, IsNewShare, status_at, cell_at, HasValueNow}
use Rattle.dob_share.specs.Items.{items_of}
use Rattle.dob_update.specs.Batches.{BatchView, OutboxView, empty_outbox, added, IsCut}
use Rattle.dob_share.specs.declared.cause.Cause.{Cause}
use Rattle.dob_node.specs.NodeViews.{NodeView}
use Rattle.dob_history.specs.Openings.{AreOpenings}
use Rattle.dob_history.specs.OpeningLists.{opening_settlements, opening_status}
use Rattle.dob_history.specs.TakenItems.{AreKept, IsHistory, IsTaken, AreTaken, IsReason}
use Rattle.dob_node.specs.Outboxes.{outbox_in, IsOutboxTo}

-- what the node has still to send to another
abbrev pub outbox_to : NodeView → ℕ → OutboxView
outbox_to node to = outbox_in node.family node.n node.id node.outboxes to

-- The node keeps its cells and its history; it has expanded only what the history has; and it has an outbox for each
-- node, and nothing in the one for itself.
pub record IsSound (node : NodeView) : Type 0 where
  pub kept : AreKept node.family node.n node.id node.share node.history
  pub emitted : node.expanded ≤ length node.history.settlements
  pub receivers : length node.outboxes ≡ node.n
  pub addressed : (to : ℕ) → IsOutboxTo node.family node.n node.id to (outbox_to node to)
  pub nothing_to_self : (outbox_to node node.id).items ≡ []

-- The node is that of owner `id` among n, hasn't failed, and has made no step: its history is that of the opening, nothing is known of
-- the moves of its classes, and it has nothing to send.
pub record IsOpened (openings : List Opening) (family : Family) (id n : ℕ) (node : NodeView) : Type 0 where
  pub of : (node.family ≡ family) × (node.id ≡ id) × (node.n ≡ n)
  pub history : node.history.settlements ≡ opening_settlements (opening_status openings) n id (places_of node.share)
  pub places : (place : ℕ) → (place < places_of node.share) ↔ (place * n + id < length openings)
  pub statuses : (class : ℕ) → IsOwn node.share class → status_at node.share class ≡ opening_status openings class
  pub cells : (class : ℕ) → IsOwn node.share class → SameCell (cell_at node.share class) (fresh (opening_of openings class).moves)
  pub nothing : (node.expanded ≡ 0) × (node.own ≡ [])
  pub outboxes : (to : ℕ) → outbox_to node to ≡ empty_outbox family n id to
  pub going : node.failed ≡ None

-- so it is, of the openings that the family's classes have
abbrev pub IsOpenedOf : Family → ℕ → ℕ → NodeView → Type 0
IsOpenedOf family id n node = (openings : List Opening) × AreOpenings family openings × IsOpened openings family id n node

-- the node is so opened of any openings of the family of which the share is
abbrev pub IsOpenedBy : Share → Family → ℕ → ℕ → NodeView → Type 0
IsOpenedBy share family id n node = (openings : List Opening) → AreOpenings family openings → IsNewShare openings n id share → IsOpened openings family id n node

-- the share is one of openings of the family
abbrev pub IsShareOf : Family → ℕ → ℕ → Share → Type 0
IsShareOf family id n share = (openings : List Opening) × AreOpenings family openings × IsNewShare openings n id share

-- The first settlement that wasn't expanded is: its items for the node itself are the last that it has to apply, and
-- those for each other node are added to the outbox for it.
pub record IsExpanded (old new : NodeView) : Type 0 where
  pub settlement : Settlement
  pub first : slice_get old.history.settlements old.expanded ≡ Some settlement
  pub own : new.own ≡ old.own ++ items_of (predecessors old.family) old.n old.id settlement
  pub sent : (to : ℕ) → to < old.n → to ≢ old.id →
      outbox_to new to ≡ added (outbox_to old to) settlement (items_of (predecessors old.family) old.n to settlement)
  pub unsent : outbox_to new old.id ≡ outbox_to old old.id
  pub expanded : new.expanded ≡ old.expanded + 1
  pub same : (new.family ≡ old.family) × (new.id ≡ old.id) × (new.n ≡ old.n) × (new.share ≡ old.share) × (new.history ≡ old.history)

-- The first of the own items is applied.
pub record HasApplied (old new : NodeView) : Type 0 where
  pub item : Item
  pub first : old.own ≡ item ∷ new.own
  pub taken : IsTaken item old.share new.share old.history new.history
  pub same : (new.family ≡ old.family) × (new.id ≡ old.id) × (new.n ≡ old.n) × (new.expanded ≡ old.expanded)
  pub outboxes : new.outboxes ≡ old.outboxes

-- The first of the own items are applied, in order.
pub record HasAppliedItems (items : List Item) (old new : NodeView) : Type 0 where
  pub first : old.own ≡ items ++ new.own
  pub taken : AreTaken items old.share new.share old.history new.history
  pub same : (new.family ≡ old.family) × (new.id ≡ old.id) × (new.n ≡ old.n) × (new.expanded ≡ old.expanded)
  pub outboxes : new.outboxes ≡ old.outboxes

-- the first of the own items can't be applied
pub record HasItemFault (node : NodeView) (why : Cause) : Type 0 where
  pub item : Item
  pub behind : List Item
  pub first : node.own ≡ item ∷ behind
  pub reason : IsReason item node.share why

-- The items are applied, in order.
pub record HasTaken (items : List Item) (old new : NodeView) : Type 0 where
  pub taken : AreTaken items old.share new.share old.history new.history
  pub same : (new.family ≡ old.family) × (new.id ≡ old.id) × (new.n ≡ old.n) × (new.expanded ≡ old.expanded)
  pub own : new.own ≡ old.own
  pub outboxes : new.outboxes ≡ old.outboxes

-- Those of the items before one that can't be are applied, in order, as many as the node says, and nothing else has changed.
pub record HasTakenBefore (items : List Item) (old new : NodeView) (why : Cause) : Type 0 where
  pub front : List Item
  pub item : Item
  pub behind : List Item
  pub items_are : items ≡ front ++ item ∷ behind
  pub counted : length front ≡ new.taken
  pub taken : HasTaken front old new
  pub reason : IsReason item new.share why

-- The batch, which is from the node to that other one, is cut from the outbox for it.
pub record HasCut (to size : ℕ) (batch : BatchView) (old new : NodeView) : Type 0 where
  pub of : (batch.family ≡ old.family) × (batch.n ≡ old.n) × (batch.from ≡ old.id) × (batch.to ≡ to)
  pub cut : IsCut (outbox_to old to) size batch (outbox_to new to)
  pub others : (other : ℕ) → other ≢ to → outbox_to new other ≡ outbox_to old other
  pub same : (new.family ≡ old.family) × (new.id ≡ old.id) × (new.n ≡ old.n) × (new.expanded ≡ old.expanded)
  pub kept : (new.share ≡ old.share) × (new.history ≡ old.history) × (new.own ≡ old.own)

-- The node is as it was, but for the room that its history has.
pub record IsUnchanged (old new : NodeView) : Type 0 where
  pub same : (new.family ≡ old.family) × (new.id ≡ old.id) × (new.n ≡ old.n) × (new.expanded ≡ old.expanded)
  pub kept : (new.share ≡ old.share) × IsHistory old.history new.history × (new.own ≡ old.own)
  pub outboxes : new.outboxes ≡ old.outboxes

-- The node has nothing to expand, to apply or to send.
pub record IsIdle (node : NodeView) : Type 0 where
  pub expanded : node.expanded ≡ length node.history.settlements
  pub applied : node.own ≡ []
  pub sent : (to : ℕ) → (outbox_to node to).items ≡ []

-- the present values of the share's classes, in the order of the classes
pub record AreValuesNow (share : Share) (values : List Value) : Type 0 where
  pub whole : length values ≡ places_of share
  pub each : (place : ℕ) (value : Value) → slice_get values place ≡ Some value →
      HasValueNow share (class_of_place share.nodes share.id place) value
