-- The lines that tell moves with their values.
use Rattle.std.specs.Prelude.{ℕ, false, List, [], ◌∷◌, ◌++◌, codes, flat_map}
use Rattle.dob_pieces.specs.Bytes.{line_feed, space}
use Rattle.dob_text.specs.MoveText.{move_text}
use Rattle.dob_probe.specs.declared.by_value.ValuedMove.{ValuedMove}
use Rattle.dob_lines.specs.Values.{value_line}

-- a move and its value, as `La2-a3 win 3`
abbrev pub valued_move_line : ValuedMove → List ℕ
valued_move_line valued = move_text valued.played false ++ (space ∷ value_line valued.value)

-- a line for each move, or that there is none
abbrev pub move_lines : List ValuedMove → List ℕ
move_lines [] = codes "end" ++ line_feed ∷ []
move_lines legal = flat_map valued_move_line legal

-- the line of the first move, or that there is none
abbrev pub best_move_line : List ValuedMove → List ℕ
best_move_line [] = codes "end" ++ line_feed ∷ []
best_move_line (first ∷ others) = valued_move_line first
