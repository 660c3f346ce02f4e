-- The items that settlements make. `targets q` is the list of the classes with a move into the class q, each as often
-- as it has one.
use Rattle.std.specs.Prelude.{ℕ, ◌+◌, ◌<◌, ◌==◌, List, [], ◌∷◌, ◌++◌, map, take, drop}
use Rattle.std.specs.List.{filter}
use Rattle.dob_share.specs.declared.news.Settlement.{Settlement}
use Rattle.dob_share.specs.declared.news.Item.{Item}
use Rattle.dob_share.specs.Owners.{owner_of}

-- so many items of a settlement
pub record PartView : Type 0 where
  pub settlement : Settlement
  pub items : ℕ

-- what a settlement says to one class
abbrev pub item_for : Settlement → ℕ → Item
item_for s to = record { number = s.number; to = to; was = s.was; now = s.now }

-- the items of a settlement for one node: one for each edge from a class of that node
abbrev pub items_of : (ℕ → List ℕ) → ℕ → ℕ → Settlement → List Item
items_of targets n node s = map (item_for s) (filter (λ to. owner_of n to == node) (targets s.class))

-- the items of settlements for one node, in their order
abbrev pub items_from : (ℕ → List ℕ) → ℕ → ℕ → List Settlement → List Item
items_from targets n node [] = []
items_from targets n node (s ∷ ss) = items_of targets n node s ++ items_from targets n node ss

-- the class that an item is for
abbrev pub target_of : Item → ℕ
target_of item = item.to

-- the part has an item
abbrev pub HasItem : PartView → Type 0
HasItem part = 0 < part.items

-- how many items there are in all
abbrev pub items_in_all : List PartView → ℕ
items_in_all [] = 0
items_in_all (part ∷ parts) = part.items + items_in_all parts

-- the items of the parts, where the classes that they are for are listed one part after the other
abbrev pub items_of_parts : List PartView → List ℕ → List Item
items_of_parts [] classes = []
items_of_parts (part ∷ parts) classes = map (item_for part.settlement) (take part.items classes) ++ items_of_parts parts (drop part.items classes)
