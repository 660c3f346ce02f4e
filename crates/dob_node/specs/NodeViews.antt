-- What is seen of a node.
use Rattle.std.specs.Prelude.{ℕ, List, Option, None}
use Rattle.dob_pieces.specs.declared.profile.Family.{Family}
use Rattle.dob_share.specs.declared.news.Item.{Item}
use Rattle.dob_share.specs.declared.share.Share.{Share}
use Rattle.dob_update.specs.Batches.{OutboxView}
use Rattle.dob_share.specs.declared.cause.Cause.{Cause}
use Rattle.dob_node.specs.declared.node_core.Core.{Core}
use Rattle.dob_history.specs.Stores.{HistoryView}
use Rattle.dob_update.specs.Queues.{queued}
use Rattle.dob_node.specs.Outboxes.{sends_of}

-- The node of owner `id`, one of n, of a family's classes: its cells, its history and how many settlements of it are expanded, the
-- items for itself, what it has to send to each node, how many items were applied of the last batch, and why it has failed.
pub record NodeView : Type 0 where
  pub family : Family
  pub id : ℕ
  pub n : ℕ
  pub share : Share
  pub history : HistoryView
  pub expanded : ℕ
  pub own : List Item
  pub outboxes : List OutboxView
  pub taken : ℕ
  pub failed : Option Cause

-- the node with that core, where it has failed as said
abbrev pub node_of : Core → Option Cause → NodeView
node_of core failed = record {
  family = core.family;
  id = core.id;
  n = core.nodes;
  share = core.share;
  history = core.history;
  expanded = core.expanded;
  own = queued core.own;
  outboxes = sends_of core.outboxes.items;
  taken = core.taken;
  failed = failed;
}

-- the node with that core, which goes on
abbrev pub going : Core → NodeView
going core = node_of core None
