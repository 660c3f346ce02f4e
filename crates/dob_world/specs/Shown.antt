-- What a world shows: its nodes, lanes and ring as functions of node numbers. The lists of a program's world are read here alone.
use Rattle.std.specs.Prelude.{ℕ, ◌+◌, ◌*◌, nat_lt, false, cond, List, [], Option, None, Some, slice_get, slice_index, slice_index_or}
use Rattle.dob_pieces.specs.declared.profile.Family.{Family}
use Rattle.dob_rank.specs.Families.{classes_of}
use Rattle.dob_share.specs.Owners.{owner_of}
use Rattle.dob_share.specs.Cells.{fresh}
use Rattle.dob_share.specs.Shares.{cell_at}
use Rattle.dob_node.specs.declared.node.Node.{Node}
use Rattle.dob_node.specs.Nodes.{outbox_to}
use Rattle.dob_safra.specs.Rings.{Ring}
use Rattle.dob_world.specs.declared.detector.Detector.{Detector}
use Rattle.dob_world.specs.declared.lane.Lane.{Lane}
use Rattle.dob_world.specs.declared.world.World.{World}
use Rattle.dob_world.specs.Worlds.{Setting, Nodes, WorldView, State}

abbrev pub setting_of : World → Setting
setting_of world = record { family = world.classes.family; n = world.node_count; batch = world.batch_size; capacity = world.capacity }

-- something of what is in a place, where something is
abbrev pub part : {X Y : Type 0} → Y → (X → Y) → Option X → Y
part none f None = none
part none f (Some x) = f x

-- the lane from node i to node j, among those of n nodes by sender and then by receiver
abbrev pub lane_at : ℕ → List Lane → ℕ → ℕ → Option Lane
lane_at n lanes i j = cond (nat_lt j n) (slice_get lanes (i * n + j)) None

-- what nodes and lanes show
unfoldable pub nodes_shown : Family → ℕ → List Node → List Lane → Nodes
nodes_shown family n nodes lanes = record {
  history = λ i. part [] (λ (node : Node). node.history.settlements) (slice_get nodes i);
  applied = λ i j. part [] (λ (lane : Lane). lane.applied.items) (lane_at n lanes i j);
  cell = λ class. cond (nat_lt class (classes_of family)) (part (fresh 0) (λ (node : Node). cell_at node.share class) (slice_get nodes (owner_of n class)))
      (fresh 0);
}

unfoldable pub world_shown : Family → ℕ → List Node → List Lane → WorldView
world_shown family n nodes lanes = record {
  nodes = nodes_shown family n nodes lanes;
  expanded = λ i. part 0 (λ (node : Node). node.expanded) (slice_get nodes i);
  own = λ i. part [] (λ (node : Node). node.own) (slice_get nodes i);
  outbox = λ i j. part [] (λ (node : Node). (outbox_to node j).items) (slice_get nodes i);
  waiting = λ i j. part [] (λ (lane : Lane). lane.link.waiting) (lane_at n lanes i j);
  sent = λ i j. part [] (λ (lane : Lane). lane.sent.items) (lane_at n lanes i j);
}

-- what the detector shows
abbrev pub ring_of : Detector → Ring
ring_of detector = record {
  posted = λ i j. slice_index detector.posted.items (i * detector.nodes + j);
  taken = λ i j. slice_index detector.taken.items (i * detector.nodes + j);
  black = λ i. slice_index_or detector.black.items i false;
  token = detector.token;
  announced = detector.announced;
}

abbrev pub state_of : World → State
state_of world = record { world = world_shown world.classes.family world.node_count world.nodes.items world.lanes.items; ring = ring_of world.detector }

-- how many batches node i has cut for node j
abbrev pub cut_by : List Node → ℕ → ℕ → ℕ
cut_by nodes i j = part 0 (λ (node : Node). (outbox_to node j).next) (slice_get nodes i)
