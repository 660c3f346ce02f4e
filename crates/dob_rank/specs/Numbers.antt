-- The arithmetic that finds a rank: mixed radix numbers, choices of squares, forms, and the blocks of one set.
use Rattle.std.specs.Prelude.{◌≡◌, ℕ, zero, suc, ◌<◌, ◌+◌, ◌-◌, ◌*◌, ◌/◌, ◌%◌, ◌^◌, ◌==◌, nat_lt, cond, List, [], ◌∷◌, Some, None, map, slice_index, replicate}
use Rattle.std.specs.List.{AllZip}
use Rattle.dob_pieces.specs.declared.kind.Kind.{Kind}
use Rattle.dob_pieces.specs.declared.kind.Kind.TheVariants.{Lion, Giraffe, Elephant, Chick, Hen}
use Rattle.dob_pieces.specs.declared.kind.Side.{Side}
use Rattle.dob_pieces.specs.declared.kind.Side.TheVariants.{Mover, Enemy}
use Rattle.dob_pieces.specs.declared.hand.Hand.{Hand}
use Rattle.dob_pieces.specs.declared.hand.Hands.{Hands}
use Rattle.dob_pieces.specs.declared.piece_set.PieceSet.{PieceSet}
use Rattle.dob_pieces.specs.declared.setup.Setup.{Setup}
pub use Rattle.dob_pieces.specs.Lists.{sum_below}
use Rattle.dob_pieces.specs.Setups.{Cell, piece_of}
use Rattle.dob_rank.specs.declared.layers.Layer.{Layer}
use Rattle.dob_rank.specs.declared.layers.Layer.TheVariants.{OwnLion, EnemyLion, Chicks, Elephants, Giraffes, Empty}
use Rattle.dob_rank.specs.Order.{form, IsPositionOfSet}

-- ---- mixed radix numbers: a list of bases, and for each base a digit below it, the first of most weight
abbrev pub product : List ℕ → ℕ
product [] = 1
product (base ∷ bases) = base * product bases

abbrev pub number_of : List ℕ → List ℕ → ℕ
number_of (base ∷ bases) (digit ∷ digits) = digit * product bases + number_of bases digits
number_of [] digits = 0
number_of bases [] = 0

abbrev pub digits_of : List ℕ → ℕ → List ℕ
digits_of [] number = []
digits_of (base ∷ bases) number = (number / product bases) ∷ digits_of bases (number % product bases)

-- each base has its digit, which is below it
abbrev pub HasDigits : List ℕ → List ℕ → Type 0
HasDigits bases digits = AllZip (λ (base digit : ℕ). digit < base) bases digits

-- ---- the layers of a board, numbered in the order in which a key lists their squares: lists of layers have their numbers
abbrev pub order : Layer → ℕ
order OwnLion = 0
order EnemyLion = 1
order Chicks = 2
order Elephants = 3
order Giraffes = 4
order Empty = 5

-- the layer of that number; none comes after the empty squares
abbrev pub layer_at : ℕ → Layer
layer_at zero = OwnLion
layer_at (suc zero) = EnemyLion
layer_at (suc (suc zero)) = Chicks
layer_at (suc (suc (suc zero))) = Elephants
layer_at (suc (suc (suc (suc zero)))) = Giraffes
layer_at _ = Empty

abbrev pub layer_of : Side → Kind → Layer
layer_of Mover Lion = OwnLion
layer_of Enemy Lion = EnemyLion
layer_of _ Chick = Chicks
layer_of _ Hen = Chicks
layer_of _ Elephant = Elephants
layer_of _ Giraffe = Giraffes

abbrev pub layer_on : Cell → Layer
layer_on None = Empty
layer_on (Some piece) = layer_of piece.side piece.kind

abbrev pub layer : Cell → ℕ
layer cell = order (layer_on cell)

-- the layers of an empty board
abbrev pub empty_layers : List ℕ
empty_layers = replicate 12 (order Empty)

-- how many cells are of that layer
abbrev pub count : ℕ → List ℕ → ℕ
count t [] = 0
count t (l ∷ ls) = cond (l == t) 1 0 + count t ls

-- how many cells are of that layer or a later one
abbrev pub count_from : ℕ → List ℕ → ℕ
count_from t [] = 0
count_from t (l ∷ ls) = cond (nat_lt l t) 0 1 + count_from t ls

-- ---- choices of squares, in the lexicographic order of their ascending lists

-- in how many ways so many squares are chosen from so many
abbrev pub choose : ℕ → ℕ → ℕ
choose squares zero = 1
choose zero (suc pieces) = 0
choose (suc squares) (suc pieces) = choose squares pieces + choose squares (suc pieces)

-- in how many of the ways to choose so many squares the first one is chosen, where so many come after it
abbrev pub with_first : ℕ → ℕ → ℕ
with_first squares zero = 0
with_first squares (suc pieces) = choose squares pieces

-- the number of choices before the one that the layer's cells make among the cells that no earlier layer has
abbrev pub choice : ℕ → List ℕ → ℕ
choice t [] = 0
choice t (l ∷ ls) = cond (nat_lt t l) (with_first (count_from t ls) (count t ls)) 0 + choice t ls

-- the empty cells that the choice of that number takes get the layer
abbrev pub settle : ℕ → ℕ → ℕ → List ℕ → List ℕ
settle t pieces number [] = []
settle t pieces number (l ∷ ls) =
    let first = with_first (count (order Empty) ls) pieces in
    cond (l == order Empty)
    (cond (nat_lt number first) (t ∷ settle t (pieces - 1) number ls) (order Empty ∷ settle t pieces (number - first) ls))
    (l ∷ settle t pieces number ls)

-- ---- forms, as digits in the base of their layer

-- how many forms a piece of the layer has
abbrev pub form_count : Layer → ℕ
form_count Chicks = 4
form_count Elephants = 2
form_count Giraffes = 2
form_count _ = 1

abbrev pub base_of : ℕ → ℕ
base_of t = form_count (layer_at t)

-- the number whose digits are the forms of the layer's cells
abbrev pub forms_number : ℕ → List Cell → ℕ
forms_number t [] = 0
forms_number t (cell ∷ cells) =
    cond (layer cell == t) (form cell * base_of t ^ count t (map layer cells)) 0 + forms_number t cells

-- the side of an elephant or a giraffe by its form, and the chick or hen of a form
abbrev pub side_of : ℕ → Side
side_of zero = Mover
side_of _ = Enemy

abbrev pub chick_of : ℕ → Cell
chick_of zero = Some (piece_of Mover Chick)
chick_of (suc zero) = Some (piece_of Mover Hen)
chick_of (suc (suc zero)) = Some (piece_of Enemy Chick)
chick_of _ = Some (piece_of Enemy Hen)

-- the cell of a layer and a form
abbrev pub cell_in : Layer → ℕ → Cell
cell_in OwnLion f = Some (piece_of Mover Lion)
cell_in EnemyLion f = Some (piece_of Enemy Lion)
cell_in Chicks f = chick_of f
cell_in Elephants f = Some (piece_of (side_of f) Elephant)
cell_in Giraffes f = Some (piece_of (side_of f) Giraffe)
cell_in Empty f = None

abbrev pub cell_of : ℕ → ℕ → Cell
cell_of t f = cell_in (layer_at t) f

-- the board of these layers on which the forms of layer t have the number `numbers t`
abbrev pub board_of : (ℕ → ℕ) → List ℕ → List Cell
board_of numbers [] = []
board_of numbers (l ∷ ls) =
    cell_of l (numbers l / base_of l ^ count l ls % base_of l) ∷ board_of numbers ls

-- ---- the blocks of one set: the positions with the same numbers on the board

-- on how many squares the mover's lion can stand, which are those off its far row; on how many others the enemy's; and how many
-- squares both of them leave
abbrev pub own_squares : ℕ
own_squares = 9

abbrev pub enemy_squares : ℕ
enemy_squares = 11

abbrev pub free_squares : ℕ
free_squares = 10

-- the bases of the numbers of chicks, elephants and giraffes on the board
abbrev pub block_bases : PieceSet → List ℕ
block_bases set = (set.chicks + 1) ∷ (set.elephants + 1) ∷ (set.giraffes + 1) ∷ []

-- the bases of a block's digits: the mover's hand, the squares of each layer, the forms of each kind
abbrev pub bases : PieceSet → ℕ → ℕ → ℕ → List ℕ
bases set i j k =
    (set.chicks - i + 1) ∷ (set.elephants - j + 1) ∷ (set.giraffes - k + 1)
    ∷ own_squares ∷ enemy_squares
    ∷ choose free_squares i ∷ choose (free_squares - i) j ∷ choose (free_squares - i - j) k
    ∷ (4 ^ i) ∷ (2 ^ j) ∷ (2 ^ k) ∷ []

-- the bases of the block of those numbers on the board
abbrev pub bases_by : PieceSet → List ℕ → List ℕ
bases_by set on_board = bases set (slice_index on_board 0) (slice_index on_board 1) (slice_index on_board 2)

-- the numbers on the board
abbrev pub on_board : Setup → List ℕ
on_board setup =
    let ls = map layer setup.board in
    count (order Chicks) ls ∷ count (order Elephants) ls ∷ count (order Giraffes) ls ∷ []

-- the digits of a setup in its block: 0 to 2 the mover's hand, 3 to 7 the squares of each layer, 8 to 10 the forms of each kind
abbrev pub digits : Setup → List ℕ
digits setup =
    let ls = map layer setup.board in
    setup.hands.mover.chicks ∷ setup.hands.mover.elephants ∷ setup.hands.mover.giraffes
    ∷ choice (order OwnLion) ls ∷ choice (order EnemyLion) ls
    ∷ choice (order Chicks) ls ∷ choice (order Elephants) ls ∷ choice (order Giraffes) ls
    ∷ forms_number (order Chicks) setup.board ∷ forms_number (order Elephants) setup.board
    ∷ forms_number (order Giraffes) setup.board ∷ []

-- the numbers of the forms, by layer
abbrev pub numbers_by : List ℕ → ℕ → ℕ
numbers_by ds = slice_index (0 ∷ 0 ∷ slice_index ds 8 ∷ slice_index ds 9 ∷ slice_index ds 10 ∷ 0 ∷ [])

-- the layers that the numbers on the board and the digits settle, one after another
abbrev pub layers_by : List ℕ → List ℕ → List ℕ
layers_by on_board ds =
    settle (order Giraffes) (slice_index on_board 2) (slice_index ds 7)
    (settle (order Elephants) (slice_index on_board 1) (slice_index ds 6)
    (settle (order Chicks) (slice_index on_board 0) (slice_index ds 5)
    (settle (order EnemyLion) 1 (slice_index ds 4) (settle (order OwnLion) 1 (slice_index ds 3) empty_layers))))

-- the mover's hand that the digits say, and the enemy's with all other pieces of the set
abbrev pub hand_by : List ℕ → Hand
hand_by ds = record { chicks = slice_index ds 0; elephants = slice_index ds 1; giraffes = slice_index ds 2 }

abbrev pub hands_by : PieceSet → List ℕ → List ℕ → Hands
hands_by set on_board ds = record {
  mover = hand_by ds;
  enemy = record {
    chicks = set.chicks - slice_index on_board 0 - slice_index ds 0;
    elephants = set.elephants - slice_index on_board 1 - slice_index ds 1;
    giraffes = set.giraffes - slice_index on_board 2 - slice_index ds 2;
  };
}

-- the setup of those numbers on the board and those digits
abbrev pub setup_by : PieceSet → List ℕ → List ℕ → Setup
setup_by set on_board ds = record {
  board = board_of (numbers_by ds) (layers_by on_board ds);
  hands = hands_by set on_board ds;
}

-- the setup of that place in that block
abbrev pub setup_in : PieceSet → ℕ → ℕ → Setup
setup_in set block place =
    setup_by set (digits_of (block_bases set) block) (digits_of (bases_by set (digits_of (block_bases set) block)) place)

-- the number of positions in that block
unfoldable pub block_size : PieceSet → ℕ → ℕ
block_size set block = product (bases_by set (digits_of (block_bases set) block))

-- how many positions stand before that block
abbrev pub start_of : PieceSet → ℕ → ℕ
start_of set block = sum_below (block_size set) block

-- the number of the setup's block
abbrev pub block_of : PieceSet → Setup → ℕ
block_of set setup = number_of (block_bases set) (on_board setup)

-- the setup's place in its block
abbrev pub place_of : PieceSet → Setup → ℕ
place_of set setup = number_of (bases_by set (on_board setup)) (digits setup)

-- the position of the set at that place of that block
pub record HasBlock (set : PieceSet) (block place : ℕ) (setup : Setup) : Type 0 where
  pub position : IsPositionOfSet set setup
  pub block_is : block_of set setup ≡ block
  pub place_is : place_of set setup ≡ place

-- the number of positions of the set, and the number of those before a setup
unfoldable pub size_of_set : PieceSet → ℕ
size_of_set set = sum_below (block_size set) (product (block_bases set))

unfoldable pub rank_of_set : PieceSet → Setup → ℕ
rank_of_set set setup =
    sum_below (block_size set) (block_of set setup)
    + number_of (bases_by set (on_board setup)) (digits setup)

-- ---- the position of a rank

-- the block in which a number lies, and the place there
abbrev pub find : (ℕ → ℕ) → ℕ → ℕ → ℕ × ℕ
find f zero n = (0, n)
find f (suc b) n = cond (nat_lt n (sum_below f b)) (find f b n) (b, n - sum_below f b)

-- the setup of the place in the block in which the rank lies
unfoldable pub nth : PieceSet → ℕ → Setup
nth set n =
    let at = find (block_size set) (product (block_bases set)) n in
    setup_in set at.0 at.1
