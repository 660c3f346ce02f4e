-- What an event makes of a node that it names, and of the lane from one node to another. For the parts of a step and for proofs:
-- no public call promises it.
use Rattle.std.specs.Prelude.{◌≡◌, ◌≢◌, ◌<◌, ℕ, [], ◌∷◌, ◌++◌}
use Rattle.dob_pieces.specs.declared.profile.Family.{Family}
use Rattle.dob_update.specs.Batches.{BatchView}
use Rattle.dob_world.specs.Links.{link_of}
use Rattle.dob_share.specs.declared.cause.Cause.{Cause}
use Rattle.dob_node.specs.declared.node.Node.{Node}
use Rattle.dob_node.specs.Nodes.{HasApplied, HasTaken, HasTakenBefore, HasCut}
use Rattle.dob_world.specs.declared.lane.Lane.{Lane}

-- two of n nodes
abbrev pub AreTwo : ℕ → ℕ → ℕ → Type 0
AreTwo n i j = (i < n) × (j < n) × (i ≢ j)

-- a batch for one of n nodes
pub record IsBatchTo (family : Family) (n to : ℕ) (batch : BatchView) : Type 0 where
  pub of : (batch.family ≡ family) × (batch.n ≡ n) × (batch.to ≡ to)

-- the same batches wait on the lane, and it lists the same items
pub record LaneStays (old new : Lane) : Type 0 where
  pub link : new.link ≡ old.link
  pub sent : new.sent.items ≡ old.sent.items
  pub applied : new.applied.items ≡ old.applied.items

-- The node has applied the first of its own items, and the lane lists it.
pub record HasListed (old : Node) (lane : Lane) (new : Node) (after : Lane) : Type 0 where
  pub applied : HasApplied old new
  pub listed : after.applied.items ≡ lane.applied.items ++ applied.item ∷ []
  pub same : (after.link ≡ lane.link) × (after.sent.items ≡ lane.sent.items)

-- The batch that the node has cut for that node is the last that waits on the lane, and its items are listed as sent.
pub record HasSentBatch (to size : ℕ) (old : Node) (lane : Lane) (new : Node) (after : Lane) : Type 0 where
  pub batch : BatchView
  pub cut : HasCut to size batch old new
  pub link : after.link ≡ link_of (lane.link.waiting ++ batch ∷ []) lane.link.capacity
  pub sent : after.sent.items ≡ lane.sent.items ++ batch.items
  pub same : after.applied.items ≡ lane.applied.items

-- The node has taken the first batch that waited on the lane, and its items are listed as applied.
pub record HasTakenBatch (old : Node) (lane : Lane) (new : Node) (after : Lane) : Type 0 where
  pub batch : BatchView
  pub first : lane.link ≡ link_of (batch ∷ after.link.waiting) after.link.capacity
  pub taken : HasTaken batch.items old new
  pub listed : after.applied.items ≡ lane.applied.items ++ batch.items
  pub same : after.sent.items ≡ lane.sent.items

-- The node has taken the first batch that waited on the lane up to an item that can't be applied; those before it are applied,
-- and listed.
pub record HasReceivedFront (old : Node) (lane : Lane) (new : Node) (after : Lane) (why : Cause) : Type 0 where
  pub batch : BatchView
  pub first : lane.link ≡ link_of (batch ∷ after.link.waiting) after.link.capacity
  pub taken : HasTakenBefore batch.items old new why
  pub listed : after.applied.items ≡ lane.applied.items ++ taken.front
  pub same : after.sent.items ≡ lane.sent.items
