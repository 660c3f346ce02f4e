-- What a history says of its classes, and what the copies of an edge know of it.
use Rattle.std.specs.Prelude.{◌≡◌, ℕ, ◌<◌, ◌&&◌, ◌==◌, nat_lt, Bool, cond, List, [], ◌∷◌, ◌++◌, length, slice_get, count_by, Some}
use Rattle.dob_pieces.specs.Lists.{each_below}
use Rattle.dob_distance.specs.declared.value.Value.{Value}
use Rattle.dob_distance.specs.declared.value.Value.TheVariants.{Draw}
use Rattle.dob_share.specs.declared.news.Settlement.{Settlement}
use Rattle.dob_share.specs.declared.news.Item.{Item}
use Rattle.dob_share.specs.Owners.{owner_of}
use Rattle.dob_share.specs.Values.{Better}

-- how many edges lead from the class p into the class q, which is how often p stands among the targets of q
abbrev pub copies : (ℕ → List ℕ) → ℕ → ℕ → ℕ
copies targets p q = count_by (λ to. to == p) (targets q)

-- the `now` of the last settlement that passes the test, or else the value before
abbrev pub last_now : (Settlement → Bool) → Value → List Settlement → Value
last_now test before [] = before
last_now test before (s ∷ ss) = last_now test (cond (test s) s.now before) ss

-- the value of a class after the history of its owner
abbrev pub value_of : List Settlement → ℕ → Value
value_of history class = last_now (λ s. s.class == class) Draw history

-- the values of the classes below a number, in order
pub record AreValuesBelow (value : ℕ → Value) (count : ℕ) (values : List Value) : Type 0 where
  pub whole : length values ≡ count
  pub each : (class : ℕ) → class < count → slice_get values class ≡ Some (value class)

-- how many of the items say to a class what the settlement of that number says
abbrev pub items_to : List Item → ℕ → ℕ → ℕ
items_to items number to = count_by (λ item. (item.number == number) && (item.to == to)) items

-- What a copy of an edge from the class p into the class q knows, the copies numbered from 0: the `now` of the last
-- settlement of q of which more items to p were applied than its number says, and Draw where there is none.
abbrev pub known : List Settlement → List Item → ℕ → ℕ → ℕ → Value
known history applied p q copy =
    last_now (λ s. (s.class == q) && nat_lt copy (items_to applied s.number p)) Draw history

-- What all copies of the edges from p know: those into each class q, in order. `histories` gives the history of each
-- node, and `applied` the items from each node that p's owner has applied.
unfoldable pub all_known : (ℕ → List ℕ) → ℕ → ℕ → (ℕ → List Settlement) → (ℕ → List Item) → ℕ → List Value
all_known targets classes n histories applied p = each_below (λ (q : ℕ).
    each_below (λ (copy : ℕ). known (histories (owner_of n q)) (applied (owner_of n q)) p q copy ∷ []) (copies targets p q)) classes

-- A settlement that can come next in the history of a node: it has its place's number and tells of one of the node's
-- classes that its value has become better.
pub record IsNext (classes n node : ℕ) (history : List Settlement) (s : Settlement) : Type 0 where
  pub number : s.number ≡ length history
  pub below : s.class < classes
  pub own : owner_of n s.class ≡ node
  pub was : s.was ≡ value_of history s.class
  pub better : Better s.was s.now

-- each settlement of a node's history could come next after those before it
abbrev pub IsChained : ℕ → ℕ → ℕ → List Settlement → Type 0
IsChained classes n node history = (before : List Settlement) (s : Settlement) (behind : List Settlement) →
    history ≡ before ++ s ∷ behind → IsNext classes n node before s
