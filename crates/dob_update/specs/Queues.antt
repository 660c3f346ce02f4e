-- Items that wait, of which only the classes are listed.
use Rattle.std.specs.Prelude.{◌≡◌, ℕ, ◌-◌, ◌^◌, ◌==◌, cond, min, List, [], ◌∷◌, ◌++◌, length}
use Rattle.std.specs.List.{All}
use Rattle.dob_share.specs.declared.news.Settlement.{Settlement}
use Rattle.dob_share.specs.declared.news.Item.{Item}
use Rattle.dob_share.specs.Items.{items_in_all, items_of_parts, HasItem, PartView}

-- the settlements with their numbers of items, the classes that these are for, and for how many items of one more there is room
pub record QueueView : Type 0 where
  pub parts : List PartView
  pub classes : List ℕ
  pub room : ℕ

-- the items, in order
abbrev pub queued : QueueView → List Item
queued queue = items_of_parts queue.parts queue.classes

-- for how many, where there is room for so many parts and classes, and a part has no room for a greater number
abbrev pub room_of : ℕ → ℕ → ℕ
room_of parts classes = cond (parts == 0) 0 (min (2 ^ 32 - 1) classes)

-- as many classes are listed as the parts have items, and each part has one
pub record AreQueued (parts : List PartView) (classes : List ℕ) : Type 0 where
  pub counted : items_in_all parts ≡ length classes
  pub some : All HasItem parts

-- the parts with a settlement more, where it has items
abbrev pub with_part : List PartView → Settlement → ℕ → List PartView
with_part parts s count = cond (count == 0) parts (parts ++ (record { settlement = s; items = count }) ∷ [])
