-- Sets of squares as the bits of a number, square 0 as the lowest.
use Rattle.std.specs.Prelude.{◌≡◌, ℕ, ◌+◌, ◌*◌, ◌%◌, ◌^◌, ◌<◌, ◌&&◌, ◌==◌, bit_and, bit_or, Bool, true, false, cond, List, Option, Some, None}
use Rattle.std.specs.List.{filter, range_with_len}
use Rattle.std.specs.Int.{bit_at, bit_not, trailing_zeros, w16}
use Rattle.dob_pieces.specs.declared.kind.Kind.{Kind}
use Rattle.dob_pieces.specs.declared.kind.Kind.TheVariants.{Lion, Giraffe, Elephant, Chick, Hen}
use Rattle.dob_pieces.specs.declared.kind.Side.{Side}
use Rattle.dob_pieces.specs.declared.kind.Side.TheVariants.{Mover, Enemy}
use Rattle.dob_pieces.specs.declared.setup.Setup.{Setup}
use Rattle.dob_pieces.specs.Pieces.{is_side, leads}
use Rattle.dob_pieces.specs.Setups.{Cell, at}

-- just the squares of the board that pass the test
pub record IsMask (test : ℕ → Bool) (mask : ℕ) : Type 0 where
  pub within : mask < 4096
  pub bits : (square : ℕ) → square < 12 → bit_at mask square ≡ cond (test square) 1 0

-- the bit of a square
abbrev pub bit : ℕ → ℕ
bit square = 1 * 2 ^ square % 2 ^ 16

-- with that square, and without it
abbrev pub with_square : ℕ → ℕ → ℕ
with_square mask square = bit_or mask (bit square)

abbrev pub without_square : ℕ → ℕ → ℕ
without_square mask square = bit_and mask (bit_not w16 (bit square))

-- the first square of a set that has one
abbrev pub IsFirst : ℕ → ℕ → Type 0
IsFirst mask square = (0 < mask) × (square ≡ trailing_zeros w16 mask)

-- the squares of a set, from the first on
unfoldable pub squares_in : ℕ → List ℕ
squares_in mask = filter (λ square. bit_at mask square == 1) (range_with_len 0 12)

abbrev pub is_kind : Kind → Kind → Bool
is_kind Lion Lion = true
is_kind Giraffe Giraffe = true
is_kind Elephant Elephant = true
is_kind Chick Chick = true
is_kind Hen Hen = true
is_kind _ _ = false

-- a piece of that side and kind
abbrev pub is_piece : Side → Kind → Cell → Bool
is_piece side kind None = false
is_piece side kind (Some piece) = is_side side piece.side && is_kind kind piece.kind

-- a piece of the mover
abbrev pub is_own : Cell → Bool
is_own None = false
is_own (Some piece) = is_side Mover piece.side

-- the kind of the mover's piece that stands there
abbrev pub own_by_side : Side → Kind → Option Kind
own_by_side Mover kind = Some kind
own_by_side Enemy kind = None

abbrev pub own_kind : Cell → Option Kind
own_kind None = None
own_kind (Some piece) = own_by_side piece.side piece.kind

-- a step of the mover may end on an enemy piece other than a lion
abbrev pub is_prey : Side → Kind → Bool
is_prey Mover kind = false
is_prey Enemy Lion = false
is_prey Enemy kind = true

-- and on an empty square
abbrev pub is_end : Cell → Bool
is_end None = true
is_end (Some piece) = is_prey piece.side piece.kind

abbrev pub is_empty : Cell → Bool
is_empty None = true
is_empty (Some piece) = false

-- the squares of the setup whose cells pass the test
abbrev pub AreSquares : Setup → (Cell → Bool) → ℕ → Type 0
AreSquares setup test = IsMask (λ square. test (at setup square))

-- a piece of the mover that stands there steps from the one square to the other
abbrev pub attacks_by : Cell → ℕ → ℕ → Bool
attacks_by None from to = false
attacks_by (Some piece) from to = is_side Mover piece.side && leads piece.kind from to

-- the mover's piece on the first square attacks the second
abbrev pub attacks : Setup → ℕ → ℕ → Bool
attacks p from to = attacks_by (at p from) from to

-- the places of the kinds and of the sides in their lists
abbrev pub kind_place : Kind → ℕ
kind_place Lion = 0
kind_place Giraffe = 1
kind_place Elephant = 2
kind_place Chick = 3
kind_place Hen = 4

abbrev pub side_place : Side → ℕ
side_place Mover = 0
side_place Enemy = 1

-- the numbers of what stands on a square: its kind, and whose it is, nobody's, the mover's or the enemy's
abbrev pub kind_number : Cell → ℕ
kind_number None = 0
kind_number (Some piece) = kind_place piece.kind

abbrev pub owner_number : Cell → ℕ
owner_number None = 0
owner_number (Some piece) = 1 + side_place piece.side
