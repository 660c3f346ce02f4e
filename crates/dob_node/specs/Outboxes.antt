-- The outboxes of a node, one for each node.
use Rattle.std.specs.Prelude.{◌≡◌, ◌≢◌, ℕ, ◌<◌, ◌≤◌, List, length, map, slice_index_or}
use Rattle.dob_pieces.specs.declared.profile.Family.{Family}
use Rattle.dob_share.specs.declared.news.Settlement.{Settlement}
use Rattle.dob_share.specs.Items.{items_of}
use Rattle.dob_update.specs.Batches.{BatchView, OutboxState, OutboxView, empty_outbox, added, IsCut}

-- the outbox for a node, among those of one of n nodes
abbrev pub outbox_in : Family → ℕ → ℕ → List OutboxView → ℕ → OutboxView
outbox_in family n from outboxes to = slice_index_or outboxes to (empty_outbox family n from to)

-- what each of the outboxes has to send
abbrev pub sends_of : List OutboxState → List OutboxView
sends_of outboxes = map (λ (o : OutboxState). o.sends) outboxes

-- an outbox from one of n nodes to another
pub record IsOutboxTo (family : Family) (n from to : ℕ) (outbox : OutboxView) : Type 0 where
  pub of : (outbox.family ≡ family) × (outbox.n ≡ n) × (outbox.from ≡ from) × (outbox.to ≡ to)

-- Of the outboxes for the nodes below a number, each but one has the settlement more, with its items for that node,
-- where `targets` are the classes with a move into the settled one; the others are the same.
pub record AreAdded (targets : List ℕ) (settlement : Settlement) (n from upto : ℕ) (old new : List OutboxView) : Type 0 where
  pub whole : length new ≡ length old
  pub sent : (to : ℕ) (default : OutboxView) → to < upto → to ≢ from →
      slice_index_or new to default ≡ added (slice_index_or old to default) settlement (items_of (λ _. targets) n to settlement)
  pub unsent : (default : OutboxView) → slice_index_or new from default ≡ slice_index_or old from default
  pub later : (to : ℕ) (default : OutboxView) → upto ≤ to → slice_index_or new to default ≡ slice_index_or old to default

-- each of the outboxes for the nodes below a number but one has room for so many items of one settlement
abbrev pub HaveRoom : ℕ → ℕ → ℕ → List OutboxState → Type 0
HaveRoom items from upto outboxes = (to : ℕ) (default : OutboxState) → to < upto → to ≢ from → items ≤ (slice_index_or outboxes to default).room

-- The batch is cut from the outbox for that node; the others are the same.
pub record IsCutFrom (to size : ℕ) (batch : BatchView) (old new : List OutboxView) : Type 0 where
  pub whole : length new ≡ length old
  pub cut : (default : OutboxView) → IsCut (slice_index_or old to default) size batch (slice_index_or new to default)
  pub others : (other : ℕ) (default : OutboxView) → other ≢ to → slice_index_or new other default ≡ slice_index_or old other default
