-- Laws of lines, of which `src/laws.rt` has one function each.
use Rattle.std.specs.Prelude.{◌≡◌, ℕ, List}
use Rattle.dob_pieces.specs.declared.setup.Setup.{Setup}
use Rattle.dob_moves.specs.declared.game_move.Move.{Move}
use Rattle.dob_rank.specs.Families.{IsPositionOf}
use Rattle.dob_distance.specs.Values.{HasValue}
use Rattle.dob_value.specs.Follows.{ClassTable, IsValueTable}
use Rattle.dob_probe.specs.Lines.{GivenBy, IsLine, BreaksAt}

-- by the value table each position's line is the line by the values by definition, the best line
abbrev pub LinesAreBest : Type 0
LinesAreBest = (table : ClassTable) (p : Setup) (moves : List Move) → IsValueTable table.family table.values → IsPositionOf table.family p →
    IsLine table.family.profile (GivenBy table) p moves → IsLine table.family.profile (HasValue table.family.profile) p moves

-- by the value table no line breaks off
abbrev pub NoneBreaks : Type 0
NoneBreaks = (table : ClassTable) (p : Setup) (class : ℕ) → IsValueTable table.family table.values → IsPositionOf table.family p →
    ¬ BreaksAt table p class

-- no line that is there breaks off
abbrev pub LinesDontBreak : Type 0
LinesDontBreak = (table : ClassTable) (p : Setup) (moves : List Move) (class : ℕ) → IsPositionOf table.family p →
    IsLine table.family.profile (GivenBy table) p moves → ¬ BreaksAt table p class

-- a line breaks off at one class
abbrev pub OneBreak : Type 0
OneBreak = (table : ClassTable) (p : Setup) (class other : ℕ) → IsPositionOf table.family p →
    BreaksAt table p class → BreaksAt table p other → class ≡ other
