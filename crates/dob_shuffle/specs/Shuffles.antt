-- The order of the numbers below a count that a seed makes: each number lies at a place of its own.
use Rattle.std.specs.Prelude.{◌≡◌, ℕ, ◌+◌, ◌-◌, ◌*◌, ◌/◌, ◌%◌, ◌^◌, ◌<◌, ◌≤◌}
use Rattle.rand_xoshiro.specs.SplitMix64.{mix_u64, next_state}
use Rattle.dob_shuffle.specs.declared.rounds.Cell.{Cell}
use Rattle.dob_shuffle.specs.declared.shuffle.Shuffle.{Shuffle}

-- the word that SplitMix64 makes of a number behind a key
abbrev pub word : ℕ → ℕ → ℕ
word key n = (mix_u64 ((key + n) % 2 ^ 64)).0

-- so many steps on along a line of so many, and so many back, going round
abbrev pub onward : ℕ → ℕ → ℕ → ℕ
onward side steps n = (n + steps % side) % side

abbrev pub back : ℕ → ℕ → ℕ → ℕ
back side steps n = (n + (side - steps % side)) % side

-- One round: the column goes on by a word of the row, and then the row goes on by a word of the column.
abbrev pub column_on : ℕ → ℕ → Cell → Cell
column_on side key cell = record { row = cell.row; column = onward side (word key cell.row) cell.column }

abbrev pub row_on : ℕ → ℕ → Cell → Cell
row_on side key cell = record { row = onward side (word key (side + cell.column)) cell.row; column = cell.column }

abbrev pub round : ℕ → ℕ → Cell → Cell
round side key cell = row_on side key (column_on side key cell)

-- the same undone: first the row goes back, and then the column
abbrev pub column_back : ℕ → ℕ → Cell → Cell
column_back side key cell = record { row = cell.row; column = back side (word key cell.row) cell.column }

abbrev pub row_back : ℕ → ℕ → Cell → Cell
row_back side key cell = record { row = back side (word key (side + cell.column)) cell.row; column = cell.column }

abbrev pub round_back : ℕ → ℕ → Cell → Cell
round_back side key cell = column_back side key (row_back side key cell)

-- numbers lie row by row on the square
abbrev pub cell_of : ℕ → ℕ → Cell
cell_of side n = record { row = n / side; column = n % side }

abbrev pub number_of : ℕ → Cell → ℕ
number_of side cell = cell.row * side + cell.column

-- The number of a place: three rounds from there on, one for each key.
abbrev pub number_at : Shuffle → ℕ → ℕ
number_at s place = number_of s.side (round s.side s.third (round s.side s.second (round s.side s.first (cell_of s.side place))))

-- The place of a number: the rounds undone, the last one first.
abbrev pub place_of : Shuffle → ℕ → ℕ
place_of s n = number_of s.side (round_back s.side s.first (round_back s.side s.second (round_back s.side s.third (cell_of s.side n))))

-- The order of the numbers below a count by a seed: the side is the least whose square is greater than the count, and the keys are the
-- first three words of SplitMix64 from the seed on.
pub record IsShuffle (seed count : ℕ) (s : Shuffle) : Type 0 where
  pub least : (s.side - 1) * (s.side - 1) ≤ count
  pub greater : count < s.side * s.side
  pub first : s.first ≡ (mix_u64 seed).0
  pub second : s.second ≡ (mix_u64 (next_state seed)).0
  pub third : s.third ≡ (mix_u64 (next_state (next_state seed))).0
