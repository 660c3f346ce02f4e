-- Sets made in one pass over the board: several in one word, twelve bits each, which no sum carries over. Sets by what they say of each cell.
use Rattle.dob_pieces.proofs.Common.{◌%◌, ◌+◌, ◌/◌, ◌<◌, ◌^◌, ◌∷◌, ◌≡◌, ◌≤◌, Bool, List, None, Some, [], arith, drop, false}
use Rattle.dob_pieces.proofs.Common.{length, map, refl, slice_index_or, sym, true, ℕ, get_or-map, length-drop, length-map, bit_mask_l, mask_l-lt}
use Rattle.dob_pieces.proofs.Common.{AreSquares, IsMask, kind_place, side_place, Cell, at, piece_of, Kind, Chick}
use Rattle.dob_pieces.proofs.Common.{Elephant, Giraffe, Hen, Lion, Side, Enemy, Mover, Setup}
use Rattle.std.proofs.Common.{◌*◌}
use Rattle.std.specs.Simd.Lanes.{mask_l}
use Rattle.std.proofs.Math.Pow.{pow_mono}
use Rattle.dob_pieces.proofs.MaskBits.{IsMask-same}
use Rattle.dob_pieces.proofs.Targets.{is_mask}

-- ---- one mask

-- the bits of the cells that pass the test
abbrev pub mask_of : (Cell → Bool) → List Cell → ℕ
mask_of test cells = mask_l (map test cells)

mask_of-lt : (test : Cell → Bool) (cells : List Cell) → mask_of test cells < 2 ^ length cells
mask_of-lt test cells = rw length-map at (mask_l-lt (map test cells))

pub are_squares : (setup : Setup) (test : Cell → Bool) (mask : ℕ) → length setup.board ≡ 12 → mask ≡ mask_of test setup.board
    → AreSquares setup test mask
are_squares setup test mask twelve e = grind (arith, mask_of-lt, bit_mask_l, get_or-map)

-- ---- five planes in one word

-- five numbers of twelve bits in one
abbrev pub word_by : ℕ → ℕ → ℕ → ℕ → ℕ → ℕ
word_by a b c d e = a + 4096 * b + 16777216 * c + 68719476736 * d + 281474976710656 * e

-- ---- the sets in a word

-- a mask of at most twelve cells has twelve bits
pub mask_of-small : (test : Cell → Bool) (cells : List Cell) → length cells ≤ 12 → mask_of test cells < 4096
mask_of-small test cells le =
    let bound : 2 ^ length cells ≤ 2 ^ 12 = pow_mono le in
    let lt = mask_of-lt test cells in
    omega (arith, bound, lt)

pub word_by-small : (a b c d e : ℕ) → a < 4096 → b < 4096 → c < 4096 → d < 4096 → e < 4096 → word_by a b c d e < 2 ^ 60
word_by-small a b c d e small-a small-b small-c small-d small-e = omega arith

-- the set whose lowest bit has that value in a word
abbrev pub plane : ℕ → ℕ → ℕ
plane word unit = word / unit % 4096

-- each of them, by its unit
pub record AreIn (word a b c d e : ℕ) : Type 0 where
  pub first : word / 1 % 4096 ≡ a
  pub second : word / 4096 % 4096 ≡ b
  pub third : word / 16777216 % 4096 ≡ c
  pub fourth : word / 68719476736 % 4096 ≡ d
  pub fifth : word / 281474976710656 % 4096 ≡ e

pub word_by-parts : (a b c d e : ℕ) → a < 4096 → b < 4096 → c < 4096 → d < 4096 → e < 4096 → AreIn (word_by a b c d e) a b c d e
word_by-parts a b c d e small-a small-b small-c small-d small-e = grind arith

-- ---- the pass over the board
pub from_start : (board : List Cell) (square : ℕ) → length board ≡ 12 → length (drop square board) ≤ 12
from_start board square twelve = omega (arith, length-drop square board)

-- before a square is read, and after
pub record IsRead (word next bound : ℕ) (after : ℕ) : Type 0 where
  pub small : word < bound
  pub small_next : next < bound
  pub next_is : next ≡ after

-- ---- what a set says of each cell
abbrev pub all_cells : List Cell
all_cells =
    None
    ∷ Some (piece_of Mover Lion) ∷ Some (piece_of Mover Giraffe) ∷ Some (piece_of Mover Elephant) ∷ Some (piece_of Mover Chick)
    ∷ Some (piece_of Mover Hen)
    ∷ Some (piece_of Enemy Lion) ∷ Some (piece_of Enemy Giraffe) ∷ Some (piece_of Enemy Elephant) ∷ Some (piece_of Enemy Chick)
    ∷ Some (piece_of Enemy Hen) ∷ []

abbrev place_of : Cell → ℕ
place_of None = 0
place_of (Some piece) = 1 + kind_place piece.kind + 5 * side_place piece.side

abbrev told_at : (Cell → Bool) → Cell → Bool
told_at test cell = slice_index_or (map test all_cells) (place_of cell) false

told_piece : (test : Cell → Bool) (side : Side) (kind : Kind) → test (Some (piece_of side kind)) ≡ told_at test (Some (piece_of side kind))
told_piece test Mover Lion = refl
told_piece test Enemy Lion = refl
told_piece test _ _ = refl

told_cell : (test : Cell → Bool) (cell : Cell) → test cell ≡ told_at test cell
told_cell test None = refl
told_cell test (Some piece) = told_piece test piece.side piece.kind

-- two tests that say the same of each kind of cell are one
pub same_test : (f g : Cell → Bool) → map f all_cells ≡ map g all_cells → (cell : Cell) → f cell ≡ g cell
same_test f g e cell = grind (arith, told_cell)

pub squares_same : (setup : Setup) (f test : Cell → Bool) (mask : ℕ) → map f all_cells ≡ map test all_cells → AreSquares setup f mask
    → AreSquares setup test mask
squares_same setup f test mask e are =
    IsMask-same (λ square. f (at setup square)) (λ square. test (at setup square)) mask (λ square lt. same_test f test e (at setup square)) are

-- every square of the board
pub everywhere : (test : ℕ → Bool) → ((square : ℕ) → test square ≡ true) → IsMask test 4095
everywhere test all = IsMask-same (λ square. true) test 4095 (λ square lt. sym (all square)) (is_mask (λ square. true) 4095 refl)
