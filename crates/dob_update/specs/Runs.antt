-- What batches and outboxes keep beside what is seen of them: the invariants of their types, which no public call names.
use Rattle.std.specs.Prelude.{◌≡◌, ℕ, ◌<◌, List, length, take, drop}
use Rattle.dob_pieces.specs.declared.profile.Family.{Family}
use Rattle.dob_unmove.specs.Edges.{predecessors}
use Rattle.dob_share.specs.declared.news.Settlement.{Settlement}
use Rattle.dob_share.specs.declared.news.Item.{Item}
use Rattle.dob_share.specs.Items.{items_of, items_in_all, items_of_parts, PartView}
use Rattle.dob_update.specs.Parts.{AreParts, AreWhole, settlements_of}
use Rattle.dob_update.specs.Queues.{AreQueued}
use Rattle.dob_update.specs.Batches.{items_for}

-- how many items a settlement has for the node `to`
abbrev pub count_for : Family → ℕ → ℕ → Settlement → ℕ
count_for family n to s = length (items_of (predecessors family) n to s)

-- the items are those of the parts
pub record IsItemRun (family : Family) (n to : ℕ) (parts : List PartView) (skip : ℕ) (items : List Item) : Type 0 where
  pub some : 0 < length items
  pub parts_fit : AreParts (count_for family n to) skip parts
  pub counted : items_in_all parts ≡ length items
  pub run : items ≡ take (length items) (drop skip (items_for family n to (settlements_of parts)))

-- the items are all those that the parts' settlements have after some
pub record IsRest (family : Family) (n to : ℕ) (parts : List PartView) (skip : ℕ) (items : List Item) : Type 0 where
  pub parts_fit : AreWhole (count_for family n to) skip parts
  pub rest : items ≡ drop skip (items_for family n to (settlements_of parts))

-- a class is listed for each of the parts' items, and these are all those that the parts' settlements have after some
pub record AreListed (family : Family) (n to : ℕ) (parts : List PartView) (skip : ℕ) (classes : List ℕ) : Type 0 where
  pub queued : AreQueued parts classes
  pub rest : IsRest family n to parts skip (items_of_parts parts classes)

-- as many classes are listed as the parts have items, and the parts' items for these are a run of those of the settlements
pub record AreItemsRun (family : Family) (n to : ℕ) (parts : List PartView) (skip : ℕ) (classes : List ℕ) : Type 0 where
  pub counted : items_in_all parts ≡ length classes
  pub run : IsItemRun family n to parts skip (items_of_parts parts classes)
