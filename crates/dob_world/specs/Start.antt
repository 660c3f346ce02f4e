-- A world before its first event.
use Rattle.std.specs.Prelude.{◌≡◌, ℕ, ◌*◌, List, [], length, Some, slice_get}
use Rattle.dob_pieces.specs.declared.profile.Family.{Family}
use Rattle.dob_share.specs.declared.opening.Opening.{Opening}
use Rattle.dob_world.specs.Links.{link_of}
use Rattle.dob_node.specs.declared.node.Node.{Node}
use Rattle.dob_node.specs.Nodes.{IsSound, IsOpened}
use Rattle.dob_history.specs.Openings.{AreOpenings}
use Rattle.dob_safra.specs.Rings.{IsStart as IsStartRing}
use Rattle.dob_world.specs.declared.lane.Lane.{Lane}
use Rattle.dob_world.specs.Worlds.{Setting, State}
use Rattle.dob_world.specs.Shown.{world_shown}

-- a lane over which nothing has gone
pub record IsEmptyLane (capacity : ℕ) (lane : Lane) : Type 0 where
  pub link : lane.link ≡ link_of [] capacity
  pub sent : lane.sent.items ≡ []
  pub applied : lane.applied.items ≡ []

pub record AreEmptyLanes (capacity count : ℕ) (lanes : List Lane) : Type 0 where
  pub whole : length lanes ≡ count
  pub each : (place : ℕ) (lane : Lane) → slice_get lanes place ≡ Some lane → IsEmptyLane capacity lane

-- the nodes below a number among n, as they are opened
pub record AreOpenedNodes (openings : List Opening) (family : Family) (n upto : ℕ) (nodes : List Node) : Type 0 where
  pub whole : length nodes ≡ upto
  pub each : (i : ℕ) (node : Node) → slice_get nodes i ≡ Some node → IsOpened openings family i n node × IsSound node

-- The state before the first event: each node is opened, nothing has gone over a lane, and the ring is at its start.
pub record IsWorldStart (k : Setting) (state : State) : Type 0 where
  pub openings : List Opening
  pub are_openings : AreOpenings k.family openings
  pub nodes : List Node
  pub lanes : List Lane
  pub opened : AreOpenedNodes openings k.family k.n k.n nodes
  pub empty : AreEmptyLanes k.capacity (k.n * k.n) lanes
  pub world_is : state.world ≡ world_shown k.family k.n nodes lanes
  pub ring : IsStartRing k.n state.ring
