-- Laws of cells, of which `src/laws.rt` has one function each.
use Rattle.std.specs.Prelude.{List}
use Rattle.dob_distance.specs.declared.value.Value.{Value}
use Rattle.dob_share.specs.Values.{Better, NoWorse}
use Rattle.dob_share.specs.Cells.{Cell, CellValue, CellCanTake, changed, SumsUp, Changes}

-- a change that fits the cell gives it no worse value
abbrev pub NeverWorse : Type 0
NeverWorse = (was now : Value) (cell : Cell) (before after : Value) →
    CellCanTake was now cell → CellValue cell before → CellValue (changed was now cell) after → NoWorse before after

-- Where a cell sums up what is known of its moves, a value for each, and one of these becomes better, the change fits the
-- cell, which then sums up what is known.
abbrev pub SumsUpWhatIsKnown : Type 0
SumsUpWhatIsKnown = (known after : List Value) (was now : Value) (cell : Cell) →
    SumsUp known cell → Changes known after was now → Better was now → CellCanTake was now cell × SumsUp after (changed was now cell)
