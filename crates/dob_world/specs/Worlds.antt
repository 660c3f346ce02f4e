-- A world of nodes, links and the ring as functions of node numbers: what it consists of, when it is lawful and linked, and
-- when nothing is left to do.
use Rattle.std.specs.Prelude.{◌≡◌, ◌≢◌, ℕ, ◌+◌, ◌<◌, ◌≤◌, false, List, [], ◌++◌, length, take}
use Rattle.dob_pieces.specs.declared.profile.Family.{Family}
use Rattle.dob_distance.specs.declared.value.Value.{Value}
use Rattle.dob_unmove.specs.Edges.{predecessors}
use Rattle.dob_share.specs.declared.news.Settlement.{Settlement}
use Rattle.dob_share.specs.declared.news.Item.{Item}
use Rattle.dob_share.specs.Owners.{owner_of}
use Rattle.dob_share.specs.Cells.{Cell}
use Rattle.dob_share.specs.Items.{items_from}
use Rattle.dob_update.specs.Batches.{BatchView, items_of_batches}
use Rattle.dob_history.specs.Histories.{value_of}
use Rattle.dob_history.specs.Lawful.{AreLawfulNodes}
use Rattle.dob_history.specs.Falls.{HaveFalls}
use Rattle.dob_safra.specs.Rings.{Ring, sum_below, IsLawfulRing}

-- what a world is made for: a family, the number of nodes, the greatest size of a batch, and the links' capacity
pub record Setting : Type 0 where
  pub family : Family
  pub n : ℕ
  pub batch : ℕ
  pub capacity : ℕ

abbrev pub setting_by : Family → ℕ → ℕ → ℕ → Setting
setting_by family n batch capacity = record { family = family; n = n; batch = batch; capacity = capacity }

-- What the nodes know: each one's history, the items from node i that node j has applied, and the cell of each class,
-- which its owner keeps.
pub record Nodes : Type 0 where
  pub history : ℕ → List Settlement
  pub applied : ℕ → ℕ → List Item
  pub cell : ℕ → Cell

-- What there is beside it: how many settlements of its history each node has expanded, the items that it has for itself,
-- those that it has still to send to each other node, the batches that wait on each link, and all items that were sent
-- over it.
pub record WorldView : Type 0 where
  pub nodes : Nodes
  pub expanded : ℕ → ℕ
  pub own : ℕ → List Item
  pub outbox : ℕ → ℕ → List Item
  pub waiting : ℕ → ℕ → List BatchView
  pub sent : ℕ → ℕ → List Item

-- All that there is: nodes and links, and the ring that finds out when nothing is left to do.
pub record State : Type 0 where
  pub world : WorldView
  pub ring : Ring

-- the value of a class, after the history of its owner
abbrev pub value_in : ℕ → Nodes → ℕ → Value
value_in n nodes class = value_of (nodes.history (owner_of n class)) class

-- all items that node i has for node j
abbrev pub items_in : Setting → Nodes → ℕ → ℕ → List Item
items_in k nodes i j = items_from (predecessors k.family) k.n j (nodes.history i)

-- those of the settlements that node i has expanded
abbrev pub emitted_in : Setting → WorldView → ℕ → ℕ → List Item
emitted_in k world i j = items_from (predecessors k.family) k.n j (take (world.expanded i) (world.nodes.history i))

-- each cell and value is what the histories and the items applied say
abbrev pub AreLawful : Setting → Nodes → Type 0
AreLawful k nodes = AreLawfulNodes k.family k.n nodes.history nodes.applied nodes.cell (value_in k.n nodes)

-- each settlement stands first in a fall, and no distance in a history or in a cell is above the number of classes
abbrev pub HaveFallsIn : Setting → Nodes → Type 0
HaveFallsIn k nodes = HaveFalls k.family k.n nodes.history nodes.cell

-- No item is lost, invented or out of place on its way: the items of the settlements expanded are those that a node has
-- applied from itself followed by its own items; or for another node those sent followed by the outbox, and those sent
-- are those applied followed by those that wait.
pub record IsLinked (k : Setting) (world : WorldView) : Type 0 where
  pub expanded : (i : ℕ) → i < k.n → world.expanded i ≤ length (world.nodes.history i)
  pub own : (i : ℕ) → i < k.n → emitted_in k world i i ≡ world.nodes.applied i i ++ world.own i
  pub posted : (i j : ℕ) → i < k.n → j < k.n → i ≢ j → emitted_in k world i j ≡ world.sent i j ++ world.outbox i j
  pub taken : (i j : ℕ) → i < k.n → j < k.n → i ≢ j →
      world.sent i j ≡ world.nodes.applied i j ++ items_of_batches (world.waiting i j)

-- Nothing is left to do: no settlement is left to expand, no own item to apply, nothing to send, and nothing waits.
pub record IsAtRest (k : Setting) (world : WorldView) : Type 0 where
  pub expanded : (i : ℕ) → i < k.n → world.expanded i ≡ length (world.nodes.history i)
  pub own : (i : ℕ) → i < k.n → world.own i ≡ []
  pub outboxes : (i j : ℕ) → i < k.n → j < k.n → i ≢ j → world.outbox i j ≡ []
  pub links : (i j : ℕ) → i < k.n → j < k.n → i ≢ j → world.waiting i j ≡ []

-- Node i is idle: it has no settlement left to expand, no own item left to apply, and nothing left to send.
pub record IsNodeIdle (k : Setting) (world : WorldView) (i : ℕ) : Type 0 where
  pub expanded : world.expanded i ≡ length (world.nodes.history i)
  pub own : world.own i ≡ []
  pub outboxes : (j : ℕ) → j < k.n → j ≢ i → world.outbox i j ≡ []

-- The ring matches the nodes and links. It is lawful; each node that isn't idle is black, so that a white one
-- is idle; and the batches posted to a node are those that it took and those that wait on the link.
pub record Matches (k : Setting) (state : State) : Type 0 where
  pub lawful : IsLawfulRing k.n state.ring
  pub idle : (i : ℕ) → i < k.n → state.ring.black i ≡ false → IsNodeIdle k state.world i
  pub posted : (i j : ℕ) → i < k.n → j < k.n → state.ring.posted i j ≡ state.ring.taken i j + length (state.world.waiting i j)

-- how many batches wait on all links
abbrev pub waiting_batches : ℕ → WorldView → ℕ
waiting_batches n world = sum_below n (λ i. sum_below n (λ j. length (world.waiting i j)))
