-- The text of a move.
use Rattle.std.specs.Prelude.{ℕ, ◌+◌, Bool, false, not, List, [], ◌∷◌, ◌++◌, codes, if◌then◌else◌}
use Rattle.std.specs.Fmt.{decimal}
use Rattle.dob_pieces.specs.declared.kind.Side.{Side}
use Rattle.dob_pieces.specs.declared.kind.Side.TheVariants.{Mover, Enemy}
use Rattle.dob_pieces.specs.Bytes.{asterisk, digit_one, hyphen, line_feed, lower_a, lower_x, plus_sign}
use Rattle.dob_pieces.specs.Squares.{column, row, turned_square}
use Rattle.dob_pieces.specs.Pieces.{kind_on_board}
use Rattle.dob_moves.specs.declared.game_move.Move.{Move}
use Rattle.dob_moves.specs.declared.game_move.Move.TheVariants.{Step, Put}
use Rattle.dob_text.specs.Letters.{letter_of_kind, cased}

-- the side of whoever moves, seen from the side to move in the first position of a line
abbrev pub side_of : Bool → Side
side_of second = if second then Enemy else Mover

-- the square seen from the side to move in the first position: the second side's squares are turned back
abbrev pub seen : Bool → ℕ → ℕ
seen second square = if second then turned_square square else square

-- a square's name: the column's letter from a on, the row's digit from 1 on
abbrev pub square_text : ℕ → List ℕ
square_text square = (lower_a + column square) ∷ (digit_one + row square) ∷ []

-- A step: the letter before it, the square that it leaves, `x` for a catch and else `-`, the square that it reaches,
-- and `+` where a chick becomes a hen. A drop: the letter, `*`, the square.
abbrev pub move_text : Move → Bool → List ℕ
move_text (Step kind from to catch grows) second =
    cased (side_of second) (letter_of_kind kind) ∷ []
    ++ square_text (seen second from)
    ++ (if catch then lower_x else hyphen) ∷ []
    ++ square_text (seen second to)
    ++ (if grows then plus_sign ∷ [] else [])
move_text (Put kind to) second =
    cased (side_of second) (letter_of_kind (kind_on_board kind)) ∷ []
    ++ asterisk ∷ []
    ++ square_text (seen second to)

-- a move on a line of its own with its number, where so many moves stand before it
abbrev pub numbered_move : ℕ → Bool → Move → List ℕ
numbered_move before second move = decimal (before + 1) ++ (codes ". " ++ (move_text move second ++ line_feed ∷ []))

-- so the moves in turn, whose sides alternate
abbrev pub numbered_from : ℕ → Bool → List Move → List ℕ
numbered_from before second [] = []
numbered_from before second (move ∷ moves) = numbered_move before second move ++ numbered_from (before + 1) (not second) moves

-- the moves of a line, numbered from 1 on
abbrev pub numbered_text : List Move → List ℕ
numbered_text moves = numbered_from 0 false moves
