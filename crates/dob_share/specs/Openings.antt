-- A share as it is opened: slots one after the other, and a pool of whose entries none is in use.
use Prim.Native.Nat.{zero-le}
use Rattle.std.specs.Prelude.{◌≡◌, ◌↔◌, ℕ, zero, suc, ◌+◌, ◌<◌, List, [], ◌∷◌, length, slice_index_or}
use Rattle.dob_moves.specs.declared.position_status.Status.{Status}
use Rattle.dob_moves.specs.declared.position_status.Status.TheVariants.{Stuck, Open}
use Rattle.dob_share.specs.declared.cells.CellHead.{CellHead}
use Rattle.dob_share.specs.declared.opening.Opening.{Opening}
use Rattle.dob_share.specs.Owners.{class_of_place}
use Rattle.dob_share.specs.Slots.{slot_at, start_at}

-- what is known of a class with no move that is stuck
abbrev pub stuck : Opening
stuck = record { status = Stuck; moves = 0; few = zero-le }

-- what is listed of the class, or that
abbrev pub opening_of : List Opening → ℕ → Opening
opening_of openings class = slice_index_or openings class stuck

-- the second list has, in their order, what the first one has of the classes of owner `id` among n
pub record AreOwn (openings : List Opening) (n id : ℕ) (own : List Opening) : Type 0 where
  pub places : (place : ℕ) → (place < length own) ↔ (class_of_place n id place < length openings)
  pub each : (place : ℕ) → place < length own → opening_of own place ≡ opening_of openings (class_of_place n id place)

-- what is listed of the classes of owner `first` among `step` is, in their order, what the other list has of those of owner `id` among n
pub record ArePlaced (listed : List Opening) (step first : ℕ) (openings : List Opening) (n id : ℕ) : Type 0 where
  pub places : (place : ℕ) → (class_of_place step first place < length listed) ↔ (class_of_place n id place < length openings)
  pub each : (place : ℕ) → class_of_place n id place < length openings →
      opening_of listed (class_of_place step first place) ≡ opening_of openings (class_of_place n id place)

-- a class with that status is settled when its share is opened
abbrev pub settles : Status → ℕ
settles Open = 0
settles _ = 1

-- how many of that many first places have a class that is settled at the opening
abbrev pub settled_among : (ℕ → Status) → ℕ → ℕ
settled_among status zero = 0
settled_among status (suc places) = settled_among status places + settles (status places)

-- a number where the status is open, else nought
abbrev pub moves_where : Status → ℕ → ℕ
moves_where Open moves = moves
moves_where _ moves = 0

-- how many entries a class has in the pool: its moves where it is open, else none
abbrev pub cell_moves : Opening → ℕ
cell_moves opening = moves_where opening.status opening.moves

-- each slot has a run of as many entries as it has moves, and none of them is in use
pub record AreOpened (slots : List CellHead) (pool : List ℕ) : Type 0 where
  pub runs : (place : ℕ) → place < length slots →
      start_at slots (length pool) (place + 1) ≡ start_at slots (length pool) place + (slot_at slots (length pool) place).left
  pub few : (place : ℕ) → (slot_at slots (length pool) place).left < 64
  pub no_win : (place : ℕ) → (slot_at slots (length pool) place).win ≡ 0
  pub unused : (place : ℕ) → (slot_at slots (length pool) place).used ≡ 0

-- the slot of an open class with that many moves, of which nothing is known, with a run from the pool's end on
abbrev pub new_slot : ℕ → ℕ → CellHead
new_slot start moves = record { start = start; win = 0; left = moves; used = 0 }

-- a slot where the status is open
abbrev pub slots_where : Status → CellHead → List CellHead
slots_where Open slot = slot ∷ []
slots_where _ slot = []

-- the slots that a class adds: one where it is open
abbrev pub slots_of : ℕ → Opening → List CellHead
slots_of start opening = slots_where opening.status (new_slot start opening.moves)
