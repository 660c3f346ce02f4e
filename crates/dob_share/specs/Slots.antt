-- The cells of a share as they are kept: slots in the order of the open classes, and a pool with a run for each.
use Rattle.std.specs.Prelude.{◌≡◌, ℕ, zero, suc, ◌+◌, ◌-◌, ◌<◌, ◌≤◌, List, length, slice_index_or, Option, None, Some}
use Rattle.dob_distance.specs.declared.value.TheConstants.{MAX_DISTANCE}
use Rattle.dob_share.specs.declared.cells.CellHead.{CellHead}
use Rattle.dob_share.specs.Cells.{Cell}
use Rattle.dob_share.specs.Pools.{wins_in}

-- what stands where no slot is: its run would begin at the pool's end
abbrev pub beyond : ℕ → CellHead
beyond size = record { start = size; win = 0; left = 0; used = 0 }

-- the slot at that place, for a pool of that size
abbrev pub slot_at : List CellHead → ℕ → ℕ → CellHead
slot_at slots size place = slice_index_or slots place (beyond size)

-- where its run begins
abbrev pub start_at : List CellHead → ℕ → ℕ → ℕ
start_at slots size place = (slot_at slots size place).start

-- how many entries its run has: those before the next one's
abbrev pub room_at : List CellHead → ℕ → ℕ → ℕ
room_at slots size place = start_at slots size (place + 1) - start_at slots size place

-- the least known loss of the enemy, where the own win that it gives is in that many plies; 0 stands for none
abbrev pub least_of : ℕ → Option ℕ
least_of zero = None
least_of (suc least) = Some least

-- the cell of a slot, with what its run counts
abbrev pub cell_of : CellHead → (ℕ → ℕ) → Cell
cell_of slot wins = record { left = slot.left; wins = wins; least = least_of slot.win }

-- the cell of a slot over a pool
abbrev pub cell_by : CellHead → List ℕ → Cell
cell_by slot pool = cell_of slot (wins_in pool slot.start slot.used)

-- the cell at that place
unfoldable pub cell_in : List CellHead → List ℕ → ℕ → Cell
cell_in slots pool place = cell_by (slot_at slots (length pool) place) pool

-- The cell's value has a distance of at most MAX_DISTANCE: each known loss of the enemy that could give it is less,
-- and, where all moves are counted wins, each of these.
pub record IsShortCell (cell : Cell) : Type 0 where
  pub loss : (plies : ℕ) → cell.least ≡ Some plies → plies < MAX_DISTANCE
  pub win : cell.least ≡ None → cell.left ≡ 0 → (plies : ℕ) → 0 < cell.wins plies → plies < MAX_DISTANCE

-- The runs lie in the pool, one after the other; each has room for the moves left beside the entries in use; and the
-- cells' values are short.
pub record ArePooled (slots : List CellHead) (pool : List ℕ) : Type 0 where
  pub ordered : (place later : ℕ) → place ≤ later → start_at slots (length pool) place ≤ start_at slots (length pool) later
  pub within : (place : ℕ) → start_at slots (length pool) place ≤ length pool
  pub small : (place : ℕ) → room_at slots (length pool) place < 64
  pub room : (place : ℕ) →
      (slot_at slots (length pool) place).left + (slot_at slots (length pool) place).used ≤ room_at slots (length pool) place
  pub short : (place : ℕ) → place < length slots → IsShortCell (cell_in slots pool place)
