-- Sets of mirror images, columns a and c exchanged, and of turned boards.
use Rattle.dob_pieces.proofs.Common.{◌%◌, ◌/◌, ◌<◌, ◌==◌, ◌^◌, ◌∙◌, ◌≡◌, Bool, ap, arith, bit_and, bit_or, map, refl, sym, true, ℕ, bit_at}
use Rattle.dob_pieces.proofs.Common.{AreSquares, IsMask, Cell, at, mirrored, mirrored_square, turned, turned_cell, turned_square, Setup}
use Rattle.std.proofs.Common.{◌*◌}
use Rattle.dob_pieces.specs.Squares.{flipped_square}
use Rattle.dob_pieces.proofs.Boards.{all_below, all_below-at, at-mirrored, at-turned}
use Rattle.dob_pieces.proofs.CellPlanes.{all_cells, same_test}
use Rattle.dob_pieces.proofs.MaskBits.{IsMask-same}
use Rattle.dob_pieces.proofs.MaskWalks.{bit_is}
use Rattle.dob_pieces.proofs.Symmetries.{mirrored_square_bound}
use Rattle.dob_pieces.proofs.Targets.{has_bits, is_mask}

-- column a two up, column b, column c two down
abbrev image : ℕ → ℕ
image mask = bit_or (bit_or (bit_and 585 mask * 2 ^ 2 % 2 ^ 16) (bit_and 1170 mask)) (bit_and 585 (mask / 2 ^ 2))

abbrev has_image : ℕ → Bool
has_image mask = has_bits (λ s. bit_at mask (mirrored_square s) == 1) (image mask)

-- computed for each set
all_have : all_below has_image 4096 ≡ true
all_have = refl

is_image : (mask : ℕ) → mask < 4096 → IsMask (λ s. bit_at mask (mirrored_square s) == 1) (image mask)
is_image mask within = is_mask (λ s. bit_at mask (mirrored_square s) == 1) (image mask) (all_below-at has_image 4096 mask all_have within)

pub image_small : (mask : ℕ) → mask < 4096 → image mask < 4096
image_small mask within = (is_image mask within).within

-- the set with columns a and c exchanged
pub IsMask-mirrored : (test : ℕ → Bool) (mask : ℕ) → IsMask test mask → IsMask (λ s. test (mirrored_square s)) (image mask)
IsMask-mirrored test mask is =
    IsMask-same (λ s. bit_at mask (mirrored_square s) == 1) (λ s. test (mirrored_square s)) (image mask)
    (λ s lt. bit_is (test (mirrored_square s)) (bit_at mask (mirrored_square s)) (is.bits (mirrored_square s) (mirrored_square_bound s lt)))
    (is_image mask is.within)

-- so a mask of cells becomes that of the mirror image's cells
pub AreSquares-mirrored : (setup : Setup) (test : Cell → Bool) (mask result : ℕ)
    → ((test : ℕ → Bool) → IsMask test mask → IsMask (λ s. test (mirrored_square s)) result)
    → AreSquares setup test mask → AreSquares (mirrored setup) test result
AreSquares-mirrored setup test mask result mirrors is =
    IsMask-same (λ s. test (at setup (mirrored_square s))) (λ s. test (at (mirrored setup) s)) result
    (λ s lt. ap test (sym (at-mirrored setup s lt))) (mirrors (λ s. test (at setup s)) is)

-- ---- a half turn, which exchanges the rows of the mirror image
abbrev flipped : ℕ → ℕ
flipped mask =
    bit_or (bit_or (bit_or (bit_and mask 7 * 2 ^ 9 % 2 ^ 16) (bit_and mask 56 * 2 ^ 3 % 2 ^ 16)) (bit_and (mask / 2 ^ 3) 56)) (mask / 2 ^ 9)

abbrev has_flipped : ℕ → Bool
has_flipped mask = has_bits (λ s. bit_at mask (flipped_square s) == 1) (flipped mask)

all_flipped : all_below has_flipped 4096 ≡ true
all_flipped = refl

is_flipped : (mask : ℕ) → mask < 4096 → IsMask (λ s. bit_at mask (flipped_square s) == 1) (flipped mask)
is_flipped mask within = is_mask (λ s. bit_at mask (flipped_square s) == 1) (flipped mask) (all_below-at has_flipped 4096 mask all_flipped within)

pub flipped_small : (mask : ℕ) → mask < 4096 → flipped mask < 4096
flipped_small mask within = (is_flipped mask within).within

flipped_bound : (s : ℕ) → s < 12 → flipped_square s < 12
flipped_bound s lt = omega arith

-- the set with the rows in the other order
pub IsMask-flipped : (test : ℕ → Bool) (mask : ℕ) → IsMask test mask → IsMask (λ s. test (flipped_square s)) (flipped mask)
IsMask-flipped test mask is =
    IsMask-same (λ s. bit_at mask (flipped_square s) == 1) (λ s. test (flipped_square s)) (flipped mask)
    (λ s lt. bit_is (test (flipped_square s)) (bit_at mask (flipped_square s)) (is.bits (flipped_square s) (flipped_bound s lt)))
    (is_flipped mask is.within)

mirrored_flipped : (s : ℕ) → s < 12 → mirrored_square (flipped_square s) ≡ turned_square s
mirrored_flipped s lt = omega arith

-- both are a half turn
pub IsMask-turned : (test : ℕ → Bool) (mask : ℕ) → IsMask (λ s. test (mirrored_square (flipped_square s))) mask → IsMask (λ s. test (turned_square s)) mask
IsMask-turned test mask =
    IsMask-same (λ s. test (mirrored_square (flipped_square s))) (λ s. test (turned_square s)) mask (λ s lt. ap test (mirrored_flipped s lt))

-- the squares whose turned cells pass another test
pub AreSquares-turned : (setup : Setup) (test seen : Cell → Bool) (mask result : ℕ) → map (λ cell. seen (turned_cell cell)) all_cells ≡ map test all_cells
    → ((test : ℕ → Bool) → IsMask test mask → IsMask (λ s. test (turned_square s)) result)
    → AreSquares setup test mask → AreSquares (turned setup) seen result
AreSquares-turned setup test seen mask result same turns is =
    IsMask-same (λ s. test (at setup (turned_square s))) (λ s. seen (at (turned setup) s)) result
    (λ s lt. sym (ap seen (at-turned setup s lt) ∙ same_test (λ cell. seen (turned_cell cell)) test same (at setup (turned_square s))))
    (turns (λ s. test (at setup s)) is)

-- the hands are exchanged
pub hands-turned : (s : Setup) → record { mover = s.hands.enemy; enemy = s.hands.mover } ≡ (turned s).hands
unfolding turned
hands-turned s = refl

-- the hands stay
pub hands-mirrored : (setup : Setup) → (mirrored setup).hands ≡ setup.hands
unfolding mirrored
hands-mirrored setup = refl
