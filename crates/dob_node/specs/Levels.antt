-- How far what a node has to expand next is from the end of a game.
use Rattle.std.specs.Prelude.{◌≡◌, ℕ, Some, slice_get}
use Rattle.dob_share.specs.declared.news.Settlement.{Settlement}
use Rattle.dob_history.specs.Levels.{level_of}
use Rattle.dob_node.specs.NodeViews.{NodeView}

-- the first settlement that isn't expanded is on that level
abbrev pub HasLevel : NodeView → ℕ → Type 0
HasLevel node level = (s : Settlement) × (slice_get node.history.settlements node.expanded ≡ Some s) × (level ≡ level_of s)
