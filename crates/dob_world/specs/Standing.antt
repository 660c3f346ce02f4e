-- What a world keeps from event to event, while no node has stopped and after that. For proofs, and for what its calls ask and
-- hand on: nothing of the promise is defined here.
use Rattle.std.specs.Prelude.{◌≡◌, ◌≢◌, ℕ, ◌+◌, ◌*◌, ◌<◌, ◌≤◌, false, List, length, None, Some, MatchOption, slice_get}
use Rattle.std.specs.List.{All}
use Rattle.dob_pieces.specs.declared.profile.Family.{Family}
use Rattle.dob_moves.specs.Statuses.{HasStatus}
use Rattle.dob_rank.specs.Families.{class_setup}
use Rattle.dob_share.specs.declared.opening.Opening.{Opening}
use Rattle.dob_share.specs.Shares.{IsOwn, status_at}
use Rattle.dob_update.specs.Batches.{AreSizes}
use Rattle.dob_node.specs.declared.node.Node.{Node}
use Rattle.dob_node.specs.Nodes.{IsSound}
use Rattle.dob_history.specs.Openings.{AreOpenings}
use Rattle.dob_safra.specs.Laws.{IsSize}
use Rattle.dob_safra.specs.Rings.{Ring, IsLawfulRing}
use Rattle.dob_world.specs.declared.detector.Detector.{Detector}
use Rattle.dob_share.specs.declared.build_fault.BuildFault.{BuildFault}
use Rattle.dob_world.specs.declared.lane.Lane.{Lane}
use Rattle.dob_world.specs.declared.world.World.{World}
use Rattle.dob_world.specs.Lanes.{IsBatchTo}
use Rattle.dob_world.specs.Worlds.{Setting, AreLawful, HaveFallsIn, IsLinked, Matches}
use Rattle.dob_world.specs.Stops.{IsStop, IsForMemory}
use Rattle.dob_world.specs.Headline.{AreBeginnings, Headline}
use Rattle.dob_world.specs.Shown.{setting_of, world_shown, lane_at, ring_of, state_of, cut_by}

-- all are in their limits
pub record IsSetting (k : Setting) : Type 0 where
  pub nodes : IsSize k.n
  pub sizes : AreSizes k.batch k.capacity

-- the node of owner i, which hasn't failed
pub record IsNodeOf (k : Setting) (i : ℕ) (node : Node) : Type 0 where
  pub sound : IsSound node
  pub of : (node.family ≡ k.family) × (node.id ≡ i) × (node.n ≡ k.n)
  pub statuses : (class : ℕ) → IsOwn node.share class → HasStatus k.family.profile (class_setup k.family class) (status_at node.share class)
  pub going : node.failed ≡ None

-- the lane from node i to node j
pub record IsLaneOf (k : Setting) (i j : ℕ) (lane : Lane) : Type 0 where
  pub capacity : lane.link.capacity ≡ k.capacity
  pub batches : All (IsBatchTo k.family k.n j) lane.link.waiting

-- nodes and lanes stand in their places
pub record AreInPlace (k : Setting) (nodes : List Node) (lanes : List Lane) : Type 0 where
  pub nodes_whole : length nodes ≡ k.n
  pub lanes_whole : length lanes ≡ k.n * k.n
  pub node : (i : ℕ) (node : Node) → slice_get nodes i ≡ Some node → IsNodeOf k i node
  pub lane : (i j : ℕ) (lane : Lane) → lane_at k.n lanes i j ≡ Some lane → IsLaneOf k i j lane

-- the classes of the family have their openings
abbrev pub HasOpenings : Family → Type 0
HasOpenings family = (openings : List Opening) × AreOpenings family openings

-- A list has a place for each pair of nodes or for each node.
pub record IsCounted (detector : Detector) : Type 0 where
  pub nodes : IsSize detector.nodes
  pub posted : length detector.posted.items ≡ detector.nodes * detector.nodes
  pub taken : length detector.taken.items ≡ detector.nodes * detector.nodes
  pub black : length detector.black.items ≡ detector.nodes

-- The detector is kept and lawful, and has both nodes.
pub record CanCount (detector : Detector) (i j : ℕ) : Type 0 where
  pub counted : IsCounted detector
  pub lawful : IsLawfulRing detector.nodes (ring_of detector)
  pub from : i < detector.nodes
  pub to : j < detector.nodes

-- no link has more posted batches than so many
abbrev pub HasAtMost : ℕ → ℕ → Ring → Type 0
HasAtMost n bound ring = (i j : ℕ) → i < n → j < n → ring.posted i j ≤ bound

-- each batch that a node has cut for another one is posted
abbrev pub AreCutsPosted : ℕ → List Node → Ring → Type 0
AreCutsPosted n nodes ring = (i j : ℕ) → i < n → j < n → i ≢ j → cut_by nodes i j ≡ ring.posted i j

-- Nodes, lanes and detector of a world of which no node has stopped, after so many events: what they show is lawful and
-- linked, settlements have falls, and the ring matches the world.
pub record Stand (k : Setting) (nodes : List Node) (lanes : List Lane) (detector : Detector) (steps : ℕ) : Type 0 where
  pub setting : IsSetting k
  pub openings : HasOpenings k.family
  pub places : AreInPlace k nodes lanes
  pub counted : IsCounted detector
  pub same_n : detector.nodes ≡ k.n
  pub lawful : AreLawful k (world_shown k.family k.n nodes lanes).nodes
  pub falls : HaveFallsIn k (world_shown k.family k.n nodes lanes).nodes
  pub linked : IsLinked k (world_shown k.family k.n nodes lanes)
  pub matches : Matches k (record { world = world_shown k.family k.n nodes lanes; ring = ring_of detector })
  pub few : HasAtMost k.n steps (ring_of detector)
  pub cuts : AreCutsPosted k.n nodes (ring_of detector)

abbrev pub IsStanding : World → Type 0
IsStanding world = Stand (setting_of world) world.nodes.items world.lanes.items world.detector world.steps

-- the world stands once an event more is counted
abbrev pub WillStand : World → Type 0
WillStand world = Stand (setting_of world) world.nodes.items world.lanes.items world.detector (world.steps + 1)

-- ---- after a stop

-- What a world has left that has stopped for the fault. Its end isn't announced; what was applied is a beginning of what was sent,
-- each item once, and each cell is what is known; and after a growth that was refused all of the promise holds.
pub record IsLeft (fault : BuildFault) (world : World) : Type 0 where
  pub stop : IsStop fault
  pub unannounced : world.detector.announced ≡ false
  pub beginnings : AreBeginnings (setting_of world) (state_of world).world
  pub headline : IsForMemory fault → Headline (setting_of world) (state_of world)

-- The world stands, or it has stopped; but never because an item contradicts its cell.
abbrev pub StandsOrStopped : World → Type 0
StandsOrStopped world = MatchOption world.failed (IsStanding world) (λ fault. IsLeft fault world)
