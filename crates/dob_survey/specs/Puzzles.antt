-- What the program owes where it is asked for puzzles of a database file.
use Rattle.std.specs.Prelude.{◌≡◌, ◌≤◌, ◌%◌, ℕ, Bool, false, if◌then◌else◌, List, [], ◌∷◌, ◌++◌, codes, flat_map}
use Rattle.std.specs.Fmt.{decimal}
use Rattle.dob_pieces.specs.declared.profile.Family.{Family}
use Rattle.dob_pieces.specs.declared.setup.Setup.{Setup}
use Rattle.dob_pieces.specs.Bytes.{line_feed}
use Rattle.dob_moves.specs.declared.game_move.Move.{Move}
use Rattle.dob_text.specs.MoveText.{move_text}
use Rattle.dob_text.specs.PositionText.{text_of}
use Rattle.dob_rank.specs.Families.{class_setup}
use Rattle.dob_value.specs.Follows.{ClassTable}
use Rattle.dob_probe.specs.declared.puzzles.Puzzle.{Puzzle}
use Rattle.dob_probe.specs.Puzzles.{ArePuzzles}
use Rattle.dob_probe.specs.declared.walks.ClassOrder.{ClassOrder}
use Rattle.dob_words.specs.declared.command.orders.PuzzleSearch.{PuzzleSearch}
use Rattle.dob_files.specs.declared.fault.ProgramFault.{ProgramFault}
use Rattle.dob_files.specs.declared.fault.ProgramFault.TheVariants.{PuzzlePlies, Memory}
use Rattle.dob_files.specs.Owed.{Owed, table_owed}
use Rattle.dob_files.specs.Tables.{IsOpeningFault}

-- a puzzle is won in so many plies: an odd number, and not at once
abbrev pub IsPuzzleLength : ℕ → Type 0
IsPuzzleLength plies = (plies % 2 ≡ 1) × (3 ≤ plies)

-- the text of the position, two spaces, and the move, as `..l/.../L../... - -  La2-a3`
abbrev pub puzzle_line : Setup → Move → List ℕ
puzzle_line position played = text_of position ++ (codes "  " ++ (move_text played false ++ line_feed ∷ []))

-- the same behind the number of the class and two spaces, where it is numbered, as `25  ..l/.../L../... - -  La2-a3`
abbrev pub puzzle_text : Bool → Setup → Puzzle → List ℕ
puzzle_text is_numbered position puzzle =
    if is_numbered then decimal puzzle.class ++ (codes "  " ++ puzzle_line position puzzle.played) else puzzle_line position puzzle.played

-- the line of a puzzle: the representative of its class, and the one move
abbrev pub line_of_puzzle : Family → Bool → Puzzle → List ℕ
line_of_puzzle family is_numbered puzzle = puzzle_text is_numbered (class_setup family puzzle.class) puzzle

-- a line for each puzzle, or that there is none
abbrev pub puzzle_lines : Family → Bool → List Puzzle → List ℕ
puzzle_lines family is_numbered [] = codes "none" ++ line_feed ∷ []
puzzle_lines family is_numbered puzzles = flat_map (line_of_puzzle family is_numbered) puzzles

-- over which classes they are looked for, and in which order
abbrev pub walk_of : PuzzleSearch → ClassOrder
walk_of search = record { seed = search.seed; after = search.from }

-- the lines give the first puzzles of the walk over the table, at most so many
pub record ArePuzzleLines (search : PuzzleSearch) (table : ClassTable) (lines : List ℕ) : Type 0 where
  pub proper : IsPuzzleLength search.plies
  pub puzzles : List Puzzle
  pub first : ArePuzzles table (walk_of search) search.plies search.count puzzles
  pub same : lines ≡ puzzle_lines table.family search.is_numbered puzzles

-- A fault of asking for puzzles: no puzzle has so many plies, which comes before the file is looked for; or one of opening the file, or
-- memory failed.
abbrev pub IsPuzzlesFault : (List ℕ → Type 0) → ℕ → ProgramFault → Type 0
IsPuzzlesFault Has plies PuzzlePlies = ¬ IsPuzzleLength plies
IsPuzzlesFault Has plies Memory = Unit {0}
IsPuzzlesFault Has plies fault = IsPuzzleLength plies × IsOpeningFault Has fault

abbrev pub puzzles_owed : List ℕ → PuzzleSearch → Owed
puzzles_owed file search = table_owed file (ArePuzzleLines search) (λ Has. IsPuzzlesFault Has search.plies)
