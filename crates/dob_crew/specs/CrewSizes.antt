-- The sizes of a crew.
use Rattle.std.specs.Prelude.{◌≡◌, ℕ}
use Rattle.dob_crew.specs.declared.limits.CrewSizes.{CrewSizes}

-- the crew has n nodes, which cut batches of at most so many items, and inboxes that hold at most so many batches
pub record AreThese (n items batches : ℕ) (sizes : CrewSizes) : Type 0 where
  pub nodes : sizes.nodes ≡ n
  pub batch_size : sizes.batch_size ≡ items
  pub capacity : sizes.capacity ≡ batches
