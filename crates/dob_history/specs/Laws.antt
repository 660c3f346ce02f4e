-- Laws of histories, of which `src/laws.rt` has one function each.
use Rattle.std.specs.Prelude.{◌≡◌, ◌≢◌, ℕ, ◌<◌, List, [], length, Some, None, slice_get}
use Rattle.dob_pieces.specs.declared.profile.Family.{Family}
use Rattle.dob_moves.specs.MoveLists.{moves_of}
use Rattle.dob_rank.specs.Families.{classes_of}
use Rattle.dob_rank.specs.Families.{class_setup}
use Rattle.dob_distance.specs.declared.value.Value.{Value}
use Rattle.dob_value.specs.Follows.{IsValueTable}
use Rattle.dob_unmove.specs.Edges.{predecessors}
use Rattle.dob_share.specs.declared.news.Settlement.{Settlement}
use Rattle.dob_share.specs.declared.news.Item.{Item}
use Rattle.dob_share.specs.declared.opening.Opening.{Opening}
use Rattle.dob_share.specs.Cells.{Cell, SumsUp, Changes, changed}
use Rattle.dob_share.specs.Steps.{IsTooDeep}
use Rattle.dob_share.specs.Items.{items_from}
use Rattle.dob_history.specs.Openings.{AreOpenings}
use Rattle.dob_history.specs.Lawful.{known_of, AreLawfulNodes, IsNextItem, CanApply, AreAfter, IsOneMore, AreSettled}
use Rattle.dob_history.specs.Falls.{HaveFalls}

-- before anything is applied a cell with all the class's moves left sums up what their copies know
abbrev pub NothingIsKnown : Type 0
NothingIsKnown = (family : Family) (n : ℕ) (histories : ℕ → List Settlement) (applied : ℕ → ℕ → List Item) (p : ℕ) →
    p < classes_of family → ((i j : ℕ) → applied i j ≡ []) →
    SumsUp (known_of family n histories applied p) (record { left = length (moves_of family.profile (class_setup family p)); wins = λ _. 0; least = None })

-- the next item fits the cell of its class
abbrev pub NextItemFits : Type 0
NextItemFits = (family : Family) (n : ℕ) (histories : ℕ → List Settlement) (applied : ℕ → ℕ → List Item) (cell : ℕ → Cell) (value : ℕ → Value)
    (i j : ℕ) (item : Item) → 0 < n → i < n → j < n → AreLawfulNodes family n histories applied cell value →
    IsNextItem family n histories applied i j item → CanApply family n j cell item

-- the next item teaches its class by one copy, which knew what it says that was, and no other class
abbrev pub NextItemTeachesOne : Type 0
NextItemTeachesOne = (family : Family) (n : ℕ) (histories : ℕ → List Settlement) (applied after : ℕ → ℕ → List Item) (cell : ℕ → Cell)
    (value : ℕ → Value) (i j : ℕ) (item : Item) → 0 < n → i < n → j < n → AreLawfulNodes family n histories applied cell value →
    IsNextItem family n histories applied i j item → IsOneMore i j item applied after →
    Changes (known_of family n histories applied item.to) (known_of family n histories after item.to) item.was item.now
    × ((p : ℕ) → p ≢ item.to → known_of family n histories after p ≡ known_of family n histories applied p)

-- after it, and the settlement that it makes, the nodes are lawful
abbrev pub LawfulStays : Type 0
LawfulStays = (family : Family) (n : ℕ) (histories grown : ℕ → List Settlement) (applied after : ℕ → ℕ → List Item) (cell cells : ℕ → Cell)
    (value worth : ℕ → Value) (i j : ℕ) (item : Item) → 0 < n → i < n → j < n → AreLawfulNodes family n histories applied cell value →
    IsNextItem family n histories applied i j item → IsOneMore i j item applied after → AreAfter item cell cells value worth →
    AreSettled j item.to (value item.to) (worth item.to) histories grown → AreLawfulNodes family n grown after cells worth

-- each settlement then stands first in a fall, where it did before
abbrev pub FallsStay : Type 0
FallsStay = (family : Family) (n : ℕ) (histories grown : ℕ → List Settlement) (applied : ℕ → ℕ → List Item) (cell cells : ℕ → Cell)
    (value worth : ℕ → Value) (i j : ℕ) (item : Item) → 0 < n → i < n → j < n → AreLawfulNodes family n histories applied cell value →
    HaveFalls family n histories cell → IsNextItem family n histories applied i j item → AreAfter item cell cells value worth →
    AreSettled j item.to (value item.to) (worth item.to) histories grown → HaveFalls family n grown cells

-- for fewer than 65,535 classes the next item doesn't go too deep
abbrev pub NextItemIsShort : Type 0
NextItemIsShort = (family : Family) (n : ℕ) (histories : ℕ → List Settlement) (applied : ℕ → ℕ → List Item) (cell : ℕ → Cell) (value : ℕ → Value)
    (i j : ℕ) (item : Item) → 0 < n → i < n → j < n → AreLawfulNodes family n histories applied cell value → HaveFalls family n histories cell →
    IsNextItem family n histories applied i j item → classes_of family < 65535 → ¬ IsTooDeep (changed item.was item.now (cell item.to))

-- where all items are applied, the values are the value table
abbrev pub LawfulIsRight : Type 0
LawfulIsRight = (family : Family) (n : ℕ) (histories : ℕ → List Settlement) (applied : ℕ → ℕ → List Item) (cell : ℕ → Cell) (value : ℕ → Value)
    (openings : List Opening) (values : List Value) → 0 < n → AreOpenings family openings → AreLawfulNodes family n histories applied cell value →
    ((i j : ℕ) → i < n → j < n → applied i j ≡ items_from (predecessors family) n j (histories i)) →
    length values ≡ classes_of family → ((class : ℕ) → class < classes_of family → slice_get values class ≡ Some (value class)) →
    IsValueTable family values
