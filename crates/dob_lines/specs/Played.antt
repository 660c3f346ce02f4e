-- The lines that tell the value of a position and its line.
use Rattle.std.specs.Prelude.{ℕ, Bool, false, if◌then◌else◌, not, List, [], ◌∷◌, ◌++◌, codes}
use Rattle.dob_pieces.specs.declared.setup.Setup.{Setup}
use Rattle.dob_pieces.specs.Bytes.{line_feed, space}
use Rattle.dob_text.specs.Drawings.{drawing_of}
use Rattle.dob_text.specs.MoveText.{move_text, numbered_text}
use Rattle.dob_moves.specs.declared.game_move.Move.{Move}
use Rattle.dob_distance.specs.declared.value.Value.{Value}
use Rattle.dob_distance.specs.declared.value.Value.TheVariants.{Draw}
use Rattle.dob_lines.specs.Values.{value_line}

-- a space where more moves follow
abbrev pub space_before : List Move → List ℕ
space_before [] = []
space_before (move ∷ moves) = space ∷ []

-- the moves in turn, with a space between two
abbrev pub moves_text : Bool → List Move → List ℕ
moves_text second [] = []
moves_text second (move ∷ moves) = move_text move second ++ space_before moves ++ moves_text (not second) moves

-- what is printed where there are no moves, by the position's value
abbrev pub end_text : Value → List ℕ
end_text Draw = codes "draw"
end_text _ = codes "end"

-- the lines that give moves, of a position of that value: all on one, or each on its own with its number
abbrev pub moves_lines : Bool → Value → List Move → List ℕ
moves_lines is_numbered value [] = end_text value ++ line_feed ∷ []
moves_lines is_numbered value moves = if is_numbered then numbered_text moves else moves_text false moves ++ line_feed ∷ []

-- the drawing, and after an empty line the value and the moves of the line, each on a line with its number
abbrev pub played_drawing : Setup → Value → List Move → List ℕ
played_drawing position value moves = drawing_of position ++ (line_feed ∷ [] ++ (value_line value ++ numbered_text moves))
