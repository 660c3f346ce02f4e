-- A node's cells with its history, and what an item that it takes makes of both.
use Rattle.std.specs.Prelude.{◌≡◌, ◌≢◌, ℕ, ◌%◌, ◌^◌, ◌<◌, ◌≤◌, ◌↔◌, List, [], ◌∷◌, ◌++◌, length, Option, None, Some}
use Rattle.std.specs.List.{All}
use Rattle.dob_pieces.specs.declared.profile.Family.{Family}
use Rattle.dob_rank.specs.Families.{classes_of}
use Rattle.dob_distance.specs.Codes.{IsEntry}
use Rattle.dob_share.specs.declared.news.Settlement.{Settlement}
use Rattle.dob_share.specs.declared.news.Item.{Item}
use Rattle.dob_share.specs.declared.share.Share.{Share}
use Rattle.dob_share.specs.Owners.{owner_of}
use Rattle.dob_share.specs.Cells.{Cell, SameCell, changed}
use Rattle.dob_share.specs.Shares.{IsOwn, cell_at, Fits, GoesTooDeep, SameClasses, HasSettled}
use Rattle.dob_history.specs.Stores.{HistoryView}
use Rattle.dob_share.specs.declared.cause.Cause.{Cause}
use Rattle.dob_share.specs.declared.cause.Cause.TheVariants.{TooDeep, Contradiction, Memory, Held, Counts}

-- the item's values are such as a table can have
abbrev pub HasItemEntries : Item → Type 0
HasItemEntries item = IsEntry item.was × IsEntry item.now

-- the cell counts wins in odd and knows a loss in an even number of plies
pub record HasParities (cell : Cell) : Type 0 where
  pub wins : (plies : ℕ) → 0 < cell.wins plies → plies % 2 ≡ 1
  pub least : (plies : ℕ) → cell.least ≡ Some plies → plies % 2 ≡ 0

-- The share and the history of owner `id` among n of a family's classes: the share has its own classes and gave as
-- many settlements as the history has, each of an own class.
pub record AreKept (family : Family) (n id : ℕ) (share : Share) (history : HistoryView) : Type 0 where
  pub share_is : (share.nodes ≡ n) × (share.id ≡ id)
  pub history_is : (history.n ≡ n) × (history.id ≡ id)
  pub one_of_n : id < n
  pub few : classes_of family ≤ 2 ^ 32
  pub owned : (class : ℕ) → IsOwn share class ↔ ((owner_of n class ≡ id) × (class < classes_of family))
  pub counted : share.settled ≡ length history.settlements
  pub classes : All (λ (s : Settlement). s.class < classes_of family) history.settlements
  pub parities : (class : ℕ) → IsOwn share class → HasParities (cell_at share class)

-- what the share and the history of an owner of a family's classes keep, they keep after that
abbrev pub StayKept : Share → HistoryView → Share → HistoryView → Type 0
StayKept share history after grown = (family : Family) → AreKept family share.nodes share.id share history → AreKept family share.nodes share.id after grown

-- the settlement, where there is one
abbrev pub listed : Option Settlement → List Settlement
listed None = []
listed (Some s) = s ∷ []

-- the history is that one, but for the room that it has
abbrev pub IsHistory : HistoryView → HistoryView → Type 0
IsHistory history same = same ≡ record history { room = same.room }

-- The share takes the item, which fits and has such values, and the history has the settlement that this makes, where it makes one; what room it has
-- left isn't said.
pub record IsTaken (item : Item) (share after : Share) (history grown : HistoryView) : Type 0 where
  pub fits : Fits share item
  pub entries : HasItemEntries item
  pub classes : SameClasses share after
  pub cell : SameCell (cell_at after item.to) (changed item.was item.now (cell_at share item.to))
  pub others : (class : ℕ) → IsOwn share class → class ≢ item.to → SameCell (cell_at after class) (cell_at share class)
  pub settled : (given : Option Settlement) × HasSettled share after item.to given
      × (grown ≡ record history { settlements = history.settlements ++ listed given; room = grown.room })

-- The items are taken, one after the other.
abbrev pub AreTaken : List Item → Share → Share → HistoryView → HistoryView → Type 0
AreTaken [] share after history grown = (after ≡ share) × IsHistory history grown
AreTaken (item ∷ items) share after history grown = (between : Share) × (longer : HistoryView)
    × IsTaken item share between history longer × AreTaken items between after longer grown

-- Why the share doesn't take the item: it doesn't fit, or it fits and would give its class a value that is too deep. Of
-- lack of memory nothing is said.
abbrev pub IsReason : Item → Share → Cause → Type 0
IsReason item share (Contradiction class) = (class ≡ item.to) × (¬ Fits share item)
IsReason item share TooDeep = Fits share item × GoesTooDeep item (cell_at share item.to)
IsReason item share Memory = Unit {0}
IsReason item share Held = ⊥
IsReason item share Counts = ⊥

-- Those before one of the items are taken, and it can't be.
pub record StopsAt (items : List Item) (share : Share) (history : HistoryView) (why : Cause) : Type 0 where
  pub front : List Item
  pub item : Item
  pub behind : List Item
  pub items_are : items ≡ front ++ item ∷ behind
  pub after : Share
  pub grown : HistoryView
  pub taken : AreTaken front share after history grown
  pub reason : IsReason item after why

-- The share and the history are those after the items before one of them, so many, which can't be taken.
pub record AreTakenBefore (items : List Item) (count : ℕ) (share after : Share) (history grown : HistoryView) (why : Cause) : Type 0 where
  pub front : List Item
  pub item : Item
  pub behind : List Item
  pub items_are : items ≡ front ++ item ∷ behind
  pub counted : length front ≡ count
  pub taken : AreTaken front share after history grown
  pub reason : IsReason item after why

-- The items in front are taken, and those behind them are left.
pub record TakesFirst (items left : List Item) (share after : Share) (history grown : HistoryView) : Type 0 where
  pub front : List Item
  pub items_are : items ≡ front ++ left
  pub taken : AreTaken front share after history grown

-- the first of the items can't be taken
pub record StopsFirst (items : List Item) (share : Share) (why : Cause) : Type 0 where
  pub item : Item
  pub behind : List Item
  pub first : items ≡ item ∷ behind
  pub reason : IsReason item share why
