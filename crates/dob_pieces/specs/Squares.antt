-- The board's squares. Square a1 is 0, b1 is 1, c1 is 2, a2 is 3, and so on to c4, which is 11.
use Rattle.std.specs.Prelude.{ℕ, ◌+◌, ◌-◌, ◌*◌, ◌/◌, ◌%◌}

-- 0 for column a, 1 for b, 2 for c
abbrev pub column : ℕ → ℕ
column square = square % 3

-- 0 for row 1, the home row of the side to move, up to 3 for row 4, its far row
abbrev pub row : ℕ → ℕ
row square = square / 3

-- the square after a half turn of the board
abbrev pub turned_square : ℕ → ℕ
turned_square square = 11 - square

-- the square after columns a and c are exchanged
abbrev pub mirrored_square : ℕ → ℕ
mirrored_square square = 3 * row square + (2 - column square)

-- the square after the rows are put in the other order
abbrev pub flipped_square : ℕ → ℕ
flipped_square square = 3 * (3 - row square) + column square
