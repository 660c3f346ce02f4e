-- What an item makes of the cells: a fault, or one cell changed.
use Rattle.std.specs.Prelude.{◌≡◌, ◌≢◌, ℕ, ◌↔◌, List, length, Option, None, Some, Result, Ok, Err}
use Rattle.dob_distance.specs.declared.value.Value.{Value}
use Rattle.dob_distance.specs.Codes.{IsShort}
use Rattle.dob_share.specs.declared.cells.CellHead.{CellHead}
use Rattle.dob_share.specs.declared.fault.Fault.{Fault}
use Rattle.dob_share.specs.declared.fault.Fault.TheVariants.{TooDeep, Contradiction}
use Rattle.dob_share.specs.Cells.{Cell, CellValue, SameCell, CellCanTake, changed}
use Rattle.dob_share.specs.Slots.{start_at, cell_in, ArePooled}

-- the cell's value has a distance above the greatest that is kept
abbrev pub IsTooDeep : Cell → Type 0
IsTooDeep cell = (value : Value) × CellValue cell value × ¬ IsShort value

-- the cell's value before and after, where they differ; else nothing
abbrev pub IsChange : Cell → Cell → Option (Value × Value) → Type 0
IsChange old new None = (value : Value) × CellValue old value × CellValue new value
IsChange old new (Some values) = CellValue old values.0 × CellValue new values.1 × (values.0 ≢ values.1)

-- What an item to a class, whose cell is at that place, makes of slots and pool. That it doesn't fit comes before that
-- the value is too deep; a fault leaves all as it was, and no item touches another cell.
pub record IsApplied (to : ℕ) (was now : Value) (place : ℕ) (old_slots : List CellHead) (old_pool : List ℕ)
    (slots : List CellHead) (pool : List ℕ) (result : Result (Option (Value × Value)) Fault) : Type 0 where
  pub misfit : (result ≡ Err (Contradiction to)) ↔ (¬ CellCanTake was now (cell_in old_slots old_pool place))
  pub deep : (result ≡ Err TooDeep)
      ↔ (CellCanTake was now (cell_in old_slots old_pool place) × IsTooDeep (changed was now (cell_in old_slots old_pool place)))
  pub named : (class : ℕ) → result ≡ Err (Contradiction class) → class ≡ to
  pub unchanged : (fault : Fault) → result ≡ Err fault → (slots ≡ old_slots) × (pool ≡ old_pool)
  pub pooled : ArePooled slots pool
  pub places : length slots ≡ length old_slots
  pub starts : (other : ℕ) → start_at slots (length pool) other ≡ start_at old_slots (length old_pool) other
  pub others : (other : ℕ) → other ≢ place → SameCell (cell_in slots pool other) (cell_in old_slots old_pool other)
  pub takes : (change : Option (Value × Value)) → result ≡ Ok change → CellCanTake was now (cell_in old_slots old_pool place)
  pub cell : (change : Option (Value × Value)) → result ≡ Ok change →
      SameCell (cell_in slots pool place) (changed was now (cell_in old_slots old_pool place))
  pub values : (change : Option (Value × Value)) → result ≡ Ok change →
      IsChange (cell_in old_slots old_pool place) (cell_in slots pool place) change
