-- A runner's node beside its endpoint, and when the two are lawful together.
use Rattle.std.specs.Prelude.{◌≡◌, ◌≢◌, ℕ, ◌-◌, ◌≤◌, ◌==◌, cond, List, [], ◌++◌, ⊤, Option, None, Some, false, length, take, drop, slice_get}
use Rattle.dob_pieces.specs.declared.profile.Family.{Family}
use Rattle.dob_unmove.specs.Edges.{predecessors}
use Rattle.dob_share.specs.declared.news.Item.{Item}
use Rattle.dob_share.specs.Items.{items_from}
use Rattle.dob_update.specs.Batches.{BatchView, items_of_batches}
use Rattle.dob_share.specs.declared.cause.Cause.{Cause}
use Rattle.dob_share.specs.declared.cause.Cause.TheVariants.{TooDeep, Contradiction, Memory, Held, Counts}
use Rattle.dob_node.specs.declared.node.Node.{Node}
use Rattle.dob_node.specs.Nodes.{outbox_to, IsSound, IsIdle}
use Rattle.dob_endpoint.specs.declared.slots.Outlet.{Outlet}
use Rattle.dob_endpoint.specs.declared.slots.Inlet.{Inlet}
use Rattle.dob_endpoint.specs.declared.endpoint.Endpoint.{Endpoint}
use Rattle.dob_endpoint.specs.Links.{offered, worked_from}
use Rattle.dob_endpoint.specs.Endpoints.{AreOut}
use Rattle.dob_runner.specs.Knows.{KnowsRight}

-- the items for a node of the settlements that the runner's node has expanded
abbrev pub planned : Node → ℕ → List Item
planned node to = items_from (predecessors node.family) node.n to (take node.expanded node.history.settlements)

-- these are the last of a list
abbrev pub AreLast : List Item → List Item → Type 0
AreLast whole last = drop (length whole - length last) whole ≡ last

-- of what the node planned for itself, the items that aren't left in its own list
abbrev pub own_applied : Node → List Item
own_applied node = take (length (planned node node.id) - length node.own) (planned node node.id)

-- the items of the batches of that sender that were worked in
abbrev pub items_worked : Inlet → ℕ → List Item
items_worked inlet from = items_of_batches (worked_from inlet from)

-- the items that the node has applied from a node: from itself those planned and gone, from another one those worked in
abbrev pub applied_from : Node → Inlet → ℕ → List Item
applied_from node inlet from = cond (from == node.id) (own_applied node) (items_worked inlet from)

-- What the node planned for another one is what is in the batches that were offered to it and then what is left in the outbox
-- for it; and it cut so many batches, none of them with more items than that size.
pub record SendsRight (node : Node) (size to : ℕ) (batches : List BatchView) : Type 0 where
  pub items : planned node to ≡ items_of_batches batches ++ (outbox_to node to).items
  pub cut : (outbox_to node to).next ≡ length batches
  pub small : (k : ℕ) (batch : BatchView) → slice_get batches k ≡ Some batch → length batch.items ≤ size

-- what failed, failed for another cause than an item
abbrev pub IsSpared : Option Cause → Type 0
IsSpared None = ⊥
IsSpared (Some TooDeep) = ⊥
IsSpared (Some (Contradiction class)) = ⊥
IsSpared (Some Memory) = ⊤
IsSpared (Some Held) = ⊤
IsSpared (Some Counts) = ⊤

-- The runner of a node is lawful: its node is that of the seat and of the family; what it planned for other nodes is on
-- its way or left in its outboxes, and what it planned for itself and hasn't applied is in its own list; it knows what the
-- items that it has applied say; nothing was offered to itself; and where its seat is white it has nothing to expand, to
-- apply or to send, and no batch in a sending slot.
pub record IsLawfulRunner (family : Family) (size : ℕ) (node : Node) (endpoint : Endpoint) : Type 0 where
  pub of : (node.family ≡ family) × (node.id ≡ endpoint.seat.node) × (node.n ≡ endpoint.seat.nodes)
  pub sound : IsSound node
  pub sends : (to : ℕ) (outlet : Outlet) → to ≢ endpoint.seat.node → slice_get endpoint.outlets.items to ≡ Some outlet → SendsRight node size to (offered outlet)
  pub unused : (outlet : Outlet) → slice_get endpoint.outlets.items endpoint.seat.node ≡ Some outlet → offered outlet ≡ []
  pub own : AreLast (planned node node.id) node.own
  pub knows : KnowsRight node.family node.n node.id node.share node.history.settlements (applied_from node endpoint.inlet)
  pub white : endpoint.seat.stand.black ≡ false → IsIdle node × AreOut endpoint.outlets.items
