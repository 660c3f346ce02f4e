-- The board as a picture (SVG): a background, and each piece at its place, the enemy's upside down.
use Rattle.std.specs.Prelude.{ℕ, ◌+◌, ◌-◌, ◌*◌, List, [], ◌∷◌, ◌++◌, Some, None, codes, map, slice_index_or}
use Rattle.std.specs.List.{concat, range_with_len}
use Rattle.std.specs.Fmt.{decimal}
use Rattle.dob_pieces.specs.declared.kind.Kind.TheVariants.{Chick, Elephant, Giraffe}
use Rattle.dob_pieces.specs.declared.kind.Piece.{Piece}
use Rattle.dob_pieces.specs.declared.kind.Side.{Side}
use Rattle.dob_pieces.specs.declared.kind.Side.TheVariants.{Mover, Enemy}
use Rattle.dob_pieces.specs.declared.hand.Hand.{Hand}
use Rattle.dob_pieces.specs.declared.setup.Setup.{Setup}
use Rattle.dob_pieces.specs.Bytes.{line_feed}
use Rattle.dob_pieces.specs.Setups.{Cell}
use Rattle.dob_pieces.specs.Squares.{column, row}
use Rattle.dob_text.specs.Letters.{letter_of_kind}
use Rattle.dob_text.specs.Backgrounds.{background}

-- the enemy's pieces stand upside down
abbrev pub turn_text : Side → List ℕ
turn_text Mover = []
turn_text Enemy = codes " rotate(180)"

-- the picture of that name in the background, so turned, its centre so far from the left and from the top
abbrev pub use_line : List ℕ → List ℕ → ℕ → ℕ → List ℕ
use_line name turn left top =
    codes "<use href='#" ++ (name ++ (codes "' transform='translate(" ++ (decimal left ++ (codes " " ++ (decimal top
    ++ (codes ")" ++ (turn ++ (codes "'/>" ++ line_feed ∷ []))))))))

-- the picture of the piece's kind, turned as its side is
abbrev pub piece_picture : Piece → ℕ → ℕ → List ℕ
piece_picture piece left top = use_line (letter_of_kind piece.kind ∷ []) (turn_text piece.side) left top

-- the piece that stands on a square: column a on the left, row 4 on top
abbrev pub square_picture : Cell → ℕ → List ℕ
square_picture None square = []
square_picture (Some piece) square = piece_picture piece (280 + 100 * column square) (390 - 100 * row square)

-- the pieces on the board
abbrev pub board_picture : List Cell → List ℕ
board_picture board = concat (map (λ square. square_picture (slice_index_or board square None) square) (range_with_len 0 12))

-- a hand lies on its player's right: the mover's on the right of the picture, the enemy's on the left
abbrev pub hand_left : Side → ℕ
hand_left Mover = 606
hand_left Enemy = 54

-- as far from its player as that row is, counted from 0
abbrev pub hand_top : Side → ℕ → ℕ
hand_top Mover row = 390 - 100 * row
hand_top Enemy row = 90 + 100 * row

-- so many pieces in hand, side by side
abbrev pub pieces_picture : Piece → ℕ → ℕ → List ℕ
pieces_picture piece row count =
    concat (map (λ place. piece_picture piece (hand_left piece.side + 100 * place) (hand_top piece.side row)) (range_with_len 0 count))

-- the chicks nearest to the player, then the elephants, then the giraffes
abbrev pub hand_picture : Side → Hand → List ℕ
hand_picture side hand =
    pieces_picture (record { side = side; kind = Chick }) 0 hand.chicks
    ++ (pieces_picture (record { side = side; kind = Elephant }) 1 hand.elephants
    ++ pieces_picture (record { side = side; kind = Giraffe }) 2 hand.giraffes)

-- the background, the pieces on the board, and both hands
abbrev pub picture_of : Setup → List ℕ
picture_of setup =
    background ++ (board_picture setup.board
    ++ (hand_picture Mover setup.hands.mover ++ (hand_picture Enemy setup.hands.enemy ++ (codes "</svg>" ++ line_feed ∷ []))))
