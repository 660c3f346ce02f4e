-- The cells of one owner's classes: what a share says of each class.
use Rattle.std.specs.Prelude.{◌≡◌, ◌≢◌, ◌↔◌, ℕ, zero, suc, ◌+◌, ◌/◌, ◌%◌, ◌<◌, List, length, Option, None, Some, MatchOption}
use Rattle.std.specs.Prelude.{Result, Err, IfOk, OnOk, OnErr}
use Rattle.dob_moves.specs.declared.position_status.Status.{Status}
use Rattle.dob_moves.specs.declared.position_status.Status.TheVariants.{Caught, Tried, Stuck, Open}
use Rattle.dob_distance.specs.declared.value.Value.{Value}
use Rattle.dob_distance.specs.declared.value.Value.TheVariants.{Win, Loss}
use Rattle.dob_share.specs.declared.fault.Fault.{Fault}
use Rattle.dob_share.specs.declared.fault.Fault.TheVariants.{TooDeep, Contradiction}
use Rattle.dob_share.specs.declared.news.Item.{Item}
use Rattle.dob_share.specs.declared.news.Settlement.{Settlement}
use Rattle.dob_share.specs.Values.{Better}
use Rattle.dob_share.specs.declared.share.Seen.{Seen}
use Rattle.dob_share.specs.declared.share.Share.{Share}
use Rattle.dob_share.specs.Cells.{Cell, CellValue, CellCanTake, SameCell, changed, fresh}
use Rattle.dob_share.specs.Slots.{start_at, cell_in}
use Rattle.dob_share.specs.Statuses.{open_at, opens_below, status_in}
use Rattle.dob_share.specs.Steps.{IsTooDeep}
use Rattle.dob_share.specs.declared.opening.Opening.{Opening}
use Rattle.dob_share.specs.Owners.{class_of_place}
use Rattle.dob_share.specs.Openings.{opening_of, AreOwn, cell_moves, settled_among}

-- how many classes the share owns
unfoldable pub places_of : Share → ℕ
places_of share = share.statuses.places

-- the class is the share's own: it has a place in it
unfoldable pub IsOwn : Share → ℕ → Type 0
IsOwn share class = (class % share.nodes ≡ share.id) × (class / share.nodes < share.statuses.places)

-- the status of an own class
unfoldable pub status_at : Share → ℕ → Status
status_at share class = status_in share.statuses.words (class / share.nodes)

-- the number of the cell of an own class that is open
unfoldable pub open_number : Share → ℕ → ℕ
open_number share class = opens_below share.statuses.words (class / share.nodes)

-- the cell where the class is open, else that of a class without moves
abbrev pub cell_where : ℕ → Cell → Cell
cell_where zero cell = fresh 0
cell_where (suc _) cell = cell

-- the cell of an own class
unfoldable pub cell_at : Share → ℕ → Cell
cell_at share class = cell_where (open_at share.statuses.words (class / share.nodes)) (cell_in share.slots share.pool (open_number share class))

-- the value of a class with that status and cell
abbrev pub IsValue : Status → Cell → Value → Type 0
IsValue Caught cell value = value ≡ Win 1
IsValue Tried cell value = value ≡ Loss 0
IsValue Stuck cell value = value ≡ Loss 0
IsValue Open cell value = CellValue cell value

-- the present value of an own class
abbrev pub HasValueNow : Share → ℕ → Value → Type 0
HasValueNow share class value = IsValue (status_at share class) (cell_at share class) value

-- the share is that of owner `id` among n of the classes that are listed, as it is opened
pub record IsNewShare (openings : List Opening) (n id : ℕ) (share : Share) : Type 0 where
  pub who : (share.id ≡ id) × (share.nodes ≡ n)
  pub owned : (class : ℕ) → IsOwn share class ↔ ((class % n ≡ id) × (class < length openings))
  pub statuses : (class : ℕ) → IsOwn share class → status_at share class ≡ (opening_of openings class).status
  pub cells : (class : ℕ) → IsOwn share class → SameCell (cell_at share class) (fresh (cell_moves (opening_of openings class)))
  pub settled : share.settled ≡ settled_among (λ place. (opening_of openings (class_of_place n id place)).status) (places_of share)

-- so it is, of any list that has these openings of its own classes
abbrev pub IsNewByOwn : List Opening → ℕ → ℕ → Share → Type 0
IsNewByOwn own n id share = (openings : List Opening) → AreOwn openings n id own → IsNewShare openings n id share

-- the item fits: it goes to an open class of the share's own, whose cell takes the change
unfoldable pub Fits : Share → Item → Type 0
Fits share item = IsOwn share item.to × (status_at share item.to ≡ Open) × CellCanTake item.was item.now (cell_at share item.to)

-- the item would give its class, which has that cell, a value whose distance is above the greatest that is kept
unfoldable pub GoesTooDeep : Item → Cell → Type 0
GoesTooDeep item cell = IsTooDeep (changed item.was item.now cell)

-- the two shares own the same classes, and know the same status of each
pub record SameClasses (old new : Share) : Type 0 where
  pub id : new.id ≡ old.id
  pub nodes : new.nodes ≡ old.nodes
  pub places : places_of new ≡ places_of old
  pub owned : (class : ℕ) → IsOwn old class → IsOwn new class
  pub statuses : (class : ℕ) → status_at new class ≡ status_at old class

-- the class is the share's own, and open
unfoldable pub IsOwnOpen : Share → ℕ → Type 0
IsOwnOpen share class = IsOwn share class × (status_at share class ≡ Open)

-- the number of the class's cell, where it is the share's own and open
unfoldable pub IsCellNumber : Share → ℕ → Option ℕ → Type 0
IsCellNumber share class number = MatchOption number (¬ IsOwnOpen share class) (λ cell. IsOwnOpen share class × (cell ≡ open_number share class))

-- what is seen of the class ahead of its items: its cell's number, and where its run begins, where it is the share's own and open
unfoldable pub IsSeen : Share → ℕ → Option Seen → Type 0
IsSeen share class look = MatchOption look (¬ IsOwnOpen share class)
    (λ seen. IsOwnOpen share class × (seen.place ≡ open_number share class) × (seen.start ≡ start_at share.slots (length share.pool) seen.place))

-- What the share gives for an item to the class: nothing where its value has stayed, else its settlement, from the value
-- that it had to a better one, with the next number.
abbrev pub HasSettled : Share → Share → ℕ → Option Settlement → Type 0
HasSettled old new class None = (new.settled ≡ old.settled)
    × (value : Value) × HasValueNow old class value × HasValueNow new class value
HasSettled old new class (Some settlement) = (new.settled ≡ old.settled + 1) × (settlement.number ≡ old.settled)
    × (settlement.class ≡ class) × HasValueNow old class settlement.was × HasValueNow new class settlement.now
    × Better settlement.was settlement.now

-- What it is to apply an item to the share: an item that doesn't fit is refused, else one that goes too deep, and both leave the share
-- as it was; else the cell of the item's class is changed as the item says, no other is, and it gives what the class's value makes of it.
pub record IsApplication (old : Share) (item : Item) (result : Result (Option Settlement) Fault) (new : Share) : Type 0 where
  pub contradiction : (result ≡ Err (Contradiction item.to)) ↔ (¬ Fits old item)
  pub too_deep : (result ≡ Err TooDeep) ↔ (Fits old item × GoesTooDeep item (cell_at old item.to))
  pub named : (class : ℕ) → result ≡ Err (Contradiction class) → class ≡ item.to
  pub unchanged : OnErr result (new ≡ old)
  pub classes : SameClasses old new
  pub cell : OnOk result (SameCell (cell_at new item.to) (changed item.was item.now (cell_at old item.to)))
  pub others : (class : ℕ) → IsOwn old class → class ≢ item.to → SameCell (cell_at new class) (cell_at old class)
  pub settled : IfOk result (λ given. HasSettled old new item.to given)
