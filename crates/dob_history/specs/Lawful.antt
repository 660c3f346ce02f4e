-- Nodes whose cells and values are what their histories and the items applied say.
use Rattle.std.specs.Prelude.{◌≡◌, ◌≢◌, ℕ, ◌<◌, List, ◌++◌, ◌∷◌, [], length}
use Rattle.std.specs.List.{All}
use Rattle.dob_pieces.specs.declared.profile.Family.{Family}
use Rattle.dob_moves.specs.declared.position_status.Status.{Status}
use Rattle.dob_moves.specs.declared.position_status.Status.TheVariants.{Open}
use Rattle.dob_moves.specs.Statuses.{HasStatus}
use Rattle.dob_rank.specs.Families.{classes_of}
use Rattle.dob_rank.specs.Families.{class_setup}
use Rattle.dob_distance.specs.declared.value.Value.{Value}
use Rattle.dob_distance.specs.Codes.{IsShort, IsEntry}
use Rattle.dob_unmove.specs.Edges.{predecessors}
use Rattle.dob_share.specs.declared.news.Settlement.{Settlement}
use Rattle.dob_share.specs.declared.news.Item.{Item}
use Rattle.dob_share.specs.Owners.{owner_of}
use Rattle.dob_share.specs.Values.{NoWorse}
use Rattle.dob_share.specs.Cells.{Cell, SameCell, CellCanTake, changed, CellValue, SumsUp}
use Rattle.dob_share.specs.Items.{items_from}
use Rattle.dob_history.specs.Histories.{value_of, all_known, IsChained}
use Rattle.dob_history.specs.Quiet.{FollowsAtStatus}

-- what the copies of the moves of p know, where `applied i j` are the items from node i that node j has applied
abbrev pub known_of : Family → ℕ → (ℕ → List Settlement) → (ℕ → ℕ → List Item) → ℕ → List Value
known_of family n histories applied p = all_known (predecessors family) (classes_of family) n histories (λ i. applied i (owner_of n p)) p

-- Each history is chained, and tells of values that a table can have. The items applied are a beginning of those that
-- the sender's history makes. The cell of each open class sums up what its copies know, and gives the class's value;
-- any other class has the value of its status; and each value is that of its owner's history.
pub record AreLawfulNodes (family : Family) (n : ℕ) (histories : ℕ → List Settlement) (applied : ℕ → ℕ → List Item) (cell : ℕ → Cell)
    (value : ℕ → Value) : Type 0 where
  pub chained : (i : ℕ) → i < n → IsChained (classes_of family) n i (histories i)
  pub entries : (i : ℕ) → i < n → All (λ (s : Settlement). IsEntry s.now) (histories i)
  pub begun : (i j : ℕ) → i < n → j < n → (rest : List Item) × (items_from (predecessors family) n j (histories i) ≡ applied i j ++ rest)
  pub sums : (p : ℕ) → p < classes_of family → HasStatus family.profile (class_setup family p) Open → SumsUp (known_of family n histories applied p) (cell p)
  pub cell_values : (p : ℕ) → p < classes_of family → HasStatus family.profile (class_setup family p) Open → CellValue (cell p) (value p)
  pub over : (p : ℕ) (status : Status) → p < classes_of family → HasStatus family.profile (class_setup family p) status → status ≢ Open →
      FollowsAtStatus status [] (value p)
  pub values : (p : ℕ) → p < classes_of family → value p ≡ value_of (histories (owner_of n p)) p

-- the item from node i is the next that node j has to apply
abbrev pub IsNextItem : Family → ℕ → (ℕ → List Settlement) → (ℕ → ℕ → List Item) → ℕ → ℕ → Item → Type 0
IsNextItem family n histories applied i j item =
    (rest : List Item) × (items_from (predecessors family) n j (histories i) ≡ applied i j ++ item ∷ rest)

-- the item is for an open class of node j, whose cell it fits
pub record CanApply (family : Family) (n j : ℕ) (cell : ℕ → Cell) (item : Item) : Type 0 where
  pub below : item.to < classes_of family
  pub own : owner_of n item.to ≡ j
  pub is_open : HasStatus family.profile (class_setup family item.to) Open
  pub takes : CellCanTake item.was item.now (cell item.to)

-- The cells after an item: that of its class is changed as the item says, and gives a value that is short and no worse;
-- the others say what they said.
pub record AreAfter (item : Item) (cell after : ℕ → Cell) (value values : ℕ → Value) : Type 0 where
  pub cell_is : SameCell (after item.to) (changed item.was item.now (cell item.to))
  pub gives : CellValue (after item.to) (values item.to)
  pub short : IsShort (values item.to)
  pub better : NoWorse (value item.to) (values item.to)
  pub others : (p : ℕ) → p ≢ item.to → SameCell (after p) (cell p) × (values p ≡ value p)

-- what is applied after an item from node i at node j
pub record IsOneMore (i j : ℕ) (item : Item) (applied after : ℕ → ℕ → List Item) : Type 0 where
  pub one_more : after i j ≡ applied i j ++ item ∷ []
  pub same_sender : (k : ℕ) → k ≢ i → after k j ≡ applied k j
  pub same_receiver : (k m : ℕ) → m ≢ j → after k m ≡ applied k m

-- the histories after a change of a class's value at node j: one more settlement where the value has changed
pub record AreSettled (j class : ℕ) (was now : Value) (histories after : ℕ → List Settlement) : Type 0 where
  pub same : was ≡ now → after j ≡ histories j
  pub more : was ≢ now → after j ≡ histories j ++ record { number = length (histories j); class = class; was = was; now = now } ∷ []
  pub others : (k : ℕ) → k ≢ j → after k ≡ histories k
