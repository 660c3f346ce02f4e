-- The batches that a node works in, and the one of them that lies in a slot.
use Rattle.std.specs.Prelude.{◌≡◌, ◌≢◌, ℕ, Some}
use Rattle.dob_pieces.specs.declared.profile.Family.{Family}
use Rattle.dob_update.specs.Batches.{BatchView}
use Rattle.dob_endpoint.specs.declared.slots.Inlet.{Inlet}

-- a batch of the family among n nodes, for that node
pub record IsBatchFor (family : Family) (n to : ℕ) (batch : BatchView) : Type 0 where
  pub of : (batch.family ≡ family) × (batch.n ≡ n)
  pub receiver : batch.to ≡ to

-- In the slot lies a batch of the node `from`, which is for the node `to`, another one, of that family and one of n.
pub record HoldsFor (family : Family) (n from to : ℕ) (inlet : Inlet) : Type 0 where
  pub batch : BatchView
  pub held : inlet.slot ≡ Some batch
  pub sender : batch.from ≡ from
  pub other : from ≢ to
  pub fits : IsBatchFor family n to batch
