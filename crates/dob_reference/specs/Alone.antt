-- One node that owns all classes, and its way to the value table.
use Rattle.std.specs.Prelude.{◌≡◌, ℕ, zero, suc, ◌+◌, ◌<◌, ◌≤◌, ◌⊎◌, nat_lt, cond, List, [], ◌++◌, length, take}
use Rattle.dob_pieces.specs.declared.profile.Family.{Family}
use Rattle.dob_moves.specs.Statuses.{HasStatus}
use Rattle.dob_rank.specs.Families.{classes_of}
use Rattle.dob_rank.specs.Families.{class_setup}
use Rattle.dob_unmove.specs.Edges.{predecessors}
use Rattle.dob_share.specs.declared.news.Settlement.{Settlement}
use Rattle.dob_share.specs.declared.news.Item.{Item}
use Rattle.dob_share.specs.declared.opening.Opening.{Opening}
use Rattle.dob_share.specs.declared.share.Share.{Share}
use Rattle.dob_share.specs.Cells.{Cell, fresh}
use Rattle.dob_share.specs.Shares.{status_at, cell_at}
use Rattle.dob_share.specs.Items.{items_from}
use Rattle.dob_history.specs.Histories.{value_of}
use Rattle.dob_history.specs.Openings.{AreOpenings}
use Rattle.dob_history.specs.Lawful.{AreLawfulNodes}
use Rattle.dob_history.specs.Falls.{HaveFalls}
use Rattle.dob_share.specs.declared.cause.Cause.{Cause}
use Rattle.dob_share.specs.declared.cause.Cause.TheVariants.{TooDeep, Contradiction, Memory, Held, Counts}
use Rattle.dob_node.specs.NodeViews.{NodeView}
use Rattle.dob_node.specs.Nodes.{IsSound, IsOpened, IsExpanded, HasApplied, HasItemFault}

-- the history of the one node, which is node 0
abbrev pub alone_history : List Settlement → ℕ → List Settlement
alone_history history zero = history
alone_history history (suc _) = []

-- what the one node has applied from itself
abbrev pub alone_applied : List Item → ℕ → ℕ → List Item
alone_applied applied zero zero = applied
alone_applied applied zero (suc _) = []
alone_applied applied (suc _) _ = []

-- the items that a history makes, all of which are for the one node
abbrev pub alone_items : Family → List Settlement → List Item
alone_items family history = items_from (predecessors family) 1 0 history

-- the cells of the classes below a number
abbrev pub cells_below : ℕ → Share → ℕ → Cell
cells_below classes share class = cond (nat_lt class classes) (cell_at share class) (fresh 0)

-- The node owns all classes, and each has its status there. What it has applied and has still to apply are the items of
-- the settlements that it has expanded, it is lawful, and its settlements have falls.
pub record IsAlone (node : NodeView) (applied : List Item) : Type 0 where
  pub sound : IsSound node
  pub alone : (node.n ≡ 1) × (node.id ≡ 0)
  pub statuses : (class : ℕ) → class < classes_of node.family → HasStatus node.family.profile (class_setup node.family class) (status_at node.share class)
  pub emitted : alone_items node.family (take node.expanded node.history.settlements) ≡ applied ++ node.own
  pub lawful : AreLawfulNodes node.family 1 (alone_history node.history.settlements) (alone_applied applied)
      (cells_below (classes_of node.family) node.share) (value_of node.history.settlements)
  pub falls : HaveFalls node.family 1 (alone_history node.history.settlements) (cells_below (classes_of node.family) node.share)

-- the one node as it is opened, before its first step
abbrev pub IsBegun : Family → NodeView → Type 0
IsBegun family node = (openings : List Opening) × AreOpenings family openings × IsOpened openings family 0 1 node × IsSound node

-- a step of the one node: it applies the first of its own items, or where it has none expands its next settlement
abbrev pub IsAloneStep : NodeView → NodeView → Type 0
IsAloneStep old new = HasApplied old new ⊎ ((old.own ≡ []) × IsExpanded old new)

-- the one node has come from its beginning by that many steps
abbrev pub HasCome : Family → ℕ → NodeView → Type 0
HasCome family zero node = IsBegun family node
HasCome family (suc steps) node = (before : NodeView) × HasCome family steps before × IsAloneStep before node

-- the one node has made that many steps, and is as said above
abbrev pub HasMade : ℕ → NodeView → Type 0
HasMade steps node = (applied : List Item) × IsAlone node applied × (node.expanded + length applied ≡ steps) × HasCome node.family steps node

-- the node has nothing to expand or to apply
abbrev pub IsDone : NodeView → Type 0
IsDone node = (node.expanded ≡ length node.history.settlements) × (node.own ≡ [])

-- The one node has something left to do after that many steps.
pub record IsUnderWay (family : Family) (steps : ℕ) : Type 0 where
  pub node : NodeView
  pub of : node.family ≡ family
  pub made : HasMade steps node
  pub left : IsDone node → ⊥

-- The one node has nothing left to do after at most that many steps.
pub record IsDoneWithin (family : Family) (limit : ℕ) : Type 0 where
  pub node : NodeView
  pub of : node.family ≡ family
  pub steps : ℕ
  pub few : steps ≤ limit
  pub made : HasMade steps node
  pub done : IsDone node

-- The item that the one node has to apply next, after fewer than that many steps, fits, but would give its class a
-- value that is too deep.
pub record IsTooDeepWithin (family : Family) (limit : ℕ) : Type 0 where
  pub node : NodeView
  pub of : node.family ≡ family
  pub steps : ℕ
  pub few : steps < limit
  pub made : HasMade steps node
  pub fault : HasItemFault node TooDeep

-- Why the one node has stopped before that many steps: never that an item doesn't fit.
abbrev pub HasStoppedAlone : Family → ℕ → Cause → Type 0
HasStoppedAlone family limit TooDeep = IsTooDeepWithin family limit
HasStoppedAlone family limit (Contradiction class) = ⊥
HasStoppedAlone family limit Memory = Unit {0}
HasStoppedAlone family limit Held = ⊥
HasStoppedAlone family limit Counts = ⊥
