-- The board drawn in letters: rows of cells, each of which shows what stands there.
use Rattle.std.specs.Prelude.{ℕ, ◌+◌, ◌*◌, List, [], ◌∷◌, ◌++◌, Some, None, codes, flat_map, slice_index_or}
use Rattle.dob_pieces.specs.declared.kind.Side.{Side}
use Rattle.dob_pieces.specs.declared.kind.Side.TheVariants.{Mover, Enemy}
use Rattle.dob_pieces.specs.declared.hand.Hand.{Hand}
use Rattle.dob_pieces.specs.declared.setup.Setup.{Setup}
use Rattle.dob_pieces.specs.Bytes.{digit_one, line_feed, space}
use Rattle.dob_pieces.specs.Setups.{Cell}
use Rattle.dob_text.specs.Letters.{letter_of}
use Rattle.dob_text.specs.PositionText.{hand_letters}

-- the letter of what stands on a square, a space where nothing does
abbrev pub shown_letter : Cell → ℕ
shown_letter None = space
shown_letter (Some piece) = letter_of (Some piece)

-- a cell with its left border
abbrev pub cell_drawing : Cell → List ℕ
cell_drawing cell = codes "| " ++ shown_letter cell ∷ space ∷ []

-- the cells of a row, whose first square is this one
abbrev pub cells_drawing : List Cell → ℕ → List ℕ
cells_drawing board square =
    cell_drawing (slice_index_or board square None)
    ++ (cell_drawing (slice_index_or board (square + 1) None) ++ cell_drawing (slice_index_or board (square + 2) None))

-- the row's number with a space before it
abbrev pub row_name : ℕ → List ℕ
row_name row = space ∷ (digit_one + row) ∷ []

-- the line above each row, and below the last one
abbrev pub border : List ℕ
border = codes "   +---+---+---+" ++ line_feed ∷ []

-- the names of the columns, each in the middle of its cells
abbrev pub column_names : List ℕ
column_names = codes "     a   b   c" ++ line_feed ∷ []

-- a row between the number on its left and that on its right, below a border
abbrev pub row_drawing : List Cell → ℕ → List ℕ
row_drawing board row = border ++ (row_name row ++ (codes " " ++ (cells_drawing board (3 * row) ++ (codes "|" ++ (row_name row ++ line_feed ∷ [])))))

-- the rows, row 4 first, between the names of the columns
abbrev pub board_drawing : List Cell → List ℕ
board_drawing board = column_names ++ (flat_map (row_drawing board) (3 ∷ 2 ∷ 1 ∷ 0 ∷ []) ++ (border ++ column_names))

-- a word in place of no letters
abbrev pub or_nothing : List ℕ → List ℕ
or_nothing [] = codes "nothing"
or_nothing (letter ∷ letters) = letter ∷ letters

-- whose side is which
abbrev pub side_words : Side → List ℕ
side_words Mover = codes "The side to move: capital letters, going up the board." ++ line_feed ∷ []
side_words Enemy = codes "The other side: small letters, going down the board." ++ line_feed ∷ []

-- whose side is which, and what lies in that hand
abbrev pub side_drawing : Side → Hand → List ℕ
side_drawing side hand = side_words side ++ (codes "In hand: " ++ (or_nothing (hand_letters side hand) ++ line_feed ∷ []))

-- what the letters are
abbrev pub letters_drawing : List ℕ
letters_drawing = codes "L lion, G giraffe, E elephant, C chick, H hen" ++ line_feed ∷ []

-- The other side with its hand, the board, the side to move with its hand, and the letters, an empty line between each two.
abbrev pub drawing_of : Setup → List ℕ
drawing_of setup =
    side_drawing Enemy setup.hands.enemy ++ (line_feed ∷ [] ++ (board_drawing setup.board ++ (line_feed ∷ []
    ++ (side_drawing Mover setup.hands.mover ++ (line_feed ∷ [] ++ letters_drawing)))))
