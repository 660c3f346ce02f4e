-- Placing pieces: the squares that a choice takes of those that are left, and a board with a piece on each of them.
use Rattle.std.specs.Prelude.{◌≡◌, ◌≢◌, ℕ, zero, suc, ◌+◌, ◌-◌, ◌/◌, ◌%◌, nat_lt, cond, List, None, length, slice_set, slice_index, slice_index_or, ◌<◌, ◌≤◌}
use Rattle.dob_pieces.specs.Setups.{Cell}
use Rattle.dob_rank.specs.declared.placing.Places.{Places}
use Rattle.dob_rank.specs.Numbers.{product, digits_of, base_of, cell_of, choose, own_squares, enemy_squares, free_squares}
use Rattle.dob_rank.specs.Runs.{square_bases}

-- the number-th of the squares other than one that is taken
abbrev pub past : ℕ → ℕ → ℕ
past taken number = cond (nat_lt number taken) number (number + 1)

-- the lower and the higher of two numbers below a bound, by the number of their choice
abbrev pub lower_of : ℕ → ℕ → ℕ
lower_of zero number = 0
lower_of (suc n) number = cond (nat_lt number n) 0 (suc (lower_of n (number - n)))

abbrev pub higher_of : ℕ → ℕ → ℕ
higher_of zero number = 0
higher_of (suc n) number = cond (nat_lt number n) (suc number) (suc (higher_of n (number - n)))

-- the place of a piece that isn't there, beyond all squares
abbrev pub nowhere : ℕ
nowhere = 12

-- the same where at most two are chosen
abbrev pub first_place : ℕ → ℕ → ℕ → ℕ
first_place squares zero number = nowhere
first_place squares (suc zero) number = number
first_place squares (suc (suc pieces)) number = lower_of squares number

abbrev pub second_place : ℕ → ℕ → ℕ → ℕ
second_place squares zero number = nowhere
second_place squares (suc zero) number = nowhere
second_place squares (suc (suc pieces)) number = higher_of squares number

-- the cells with pieces of a layer on two squares, or on the first alone, or on none, whose forms have that number
abbrev pub put : ℕ → ℕ → ℕ → ℕ → ℕ → List Cell → List Cell
put t zero first second number cells = cells
put t (suc zero) first second number cells = slice_set cells first (cell_of t (number % base_of t))
put t (suc (suc pieces)) first second number cells =
    slice_set (slice_set cells second (cell_of t (number % base_of t))) first (cell_of t (number / base_of t % base_of t))

-- the digits are choices of squares for those numbers on the board
pub record AreChoices (on_board digits : List ℕ) : Type 0 where
  pub chicks : slice_index on_board 0 ≤ 2
  pub elephants : slice_index on_board 1 ≤ 2
  pub giraffes : slice_index on_board 2 ≤ 2
  pub own_lion : slice_index digits 3 < own_squares
  pub other_lion : slice_index digits 4 < enemy_squares
  pub chick_squares : slice_index digits 5 < choose free_squares (slice_index on_board 0)
  pub elephant_squares : slice_index digits 6 < choose (free_squares - slice_index on_board 0) (slice_index on_board 1)
  pub giraffe_squares : slice_index digits 7 < choose (free_squares - slice_index on_board 0 - slice_index on_board 1) (slice_index on_board 2)

-- no piece stands on the first square, nor on the second, which is another one, where so many pieces come there
pub record AreFree (pieces first second : ℕ) (cells : List Cell) : Type 0 where
  pub first_free : 0 < pieces → slice_index_or cells first None ≡ None
  pub second_free : 1 < pieces → slice_index_or cells second None ≡ None
  pub are_two : 1 < pieces → first ≢ second

-- ---- places among the squares that the lions leave, by the choices of the squares of each kind

-- a place among those that the chicks leave, and among those that the elephants leave
abbrev pub past_chicks : List ℕ → ℕ → ℕ → ℕ
past_chicks on_board chicks n =
    past (second_place free_squares (slice_index on_board 0) chicks) (past (first_place free_squares (slice_index on_board 0) chicks) n)

abbrev pub past_elephants : List ℕ → ℕ → ℕ → ℕ
past_elephants on_board elephants n =
    let left = free_squares - slice_index on_board 0 in
    past (second_place left (slice_index on_board 1) elephants) (past (first_place left (slice_index on_board 1) elephants) n)

-- the places of the pieces of each kind
pub record ArePlaces (on_board : List ℕ) (chicks elephants giraffes : ℕ) (places : Places) : Type 0 where
  pub first_chick : places.chicks.0 ≡ first_place free_squares (slice_index on_board 0) chicks
  pub second_chick : places.chicks.1 ≡ second_place free_squares (slice_index on_board 0) chicks
  pub first_elephant : places.elephants.0 ≡ past_chicks on_board chicks
      (first_place (free_squares - slice_index on_board 0) (slice_index on_board 1) elephants)
  pub second_elephant : places.elephants.1 ≡ past_chicks on_board chicks
      (second_place (free_squares - slice_index on_board 0) (slice_index on_board 1) elephants)
  pub first_giraffe : places.giraffes.0 ≡ past_chicks on_board chicks (past_elephants on_board elephants
      (first_place (free_squares - slice_index on_board 0 - slice_index on_board 1) (slice_index on_board 2) giraffes))
  pub second_giraffe : places.giraffes.1 ≡ past_chicks on_board chicks (past_elephants on_board elephants
      (second_place (free_squares - slice_index on_board 0 - slice_index on_board 1) (slice_index on_board 2) giraffes))

-- choices of squares for those numbers on the board
pub record AreSquareChoices (on_board choices : List ℕ) : Type 0 where
  pub chicks : slice_index on_board 0 ≤ 2
  pub elephants : slice_index on_board 1 ≤ 2
  pub giraffes : slice_index on_board 2 ≤ 2
  pub chick_squares : slice_index choices 0 < choose free_squares (slice_index on_board 0)
  pub elephant_squares : slice_index choices 1 < choose (free_squares - slice_index on_board 0) (slice_index on_board 1)
  pub giraffe_squares : slice_index choices 2 < choose (free_squares - slice_index on_board 0 - slice_index on_board 1) (slice_index on_board 2)

-- ---- the table of a block's places

-- the places of the choices that the digits of a number are
abbrev pub HasPlaces : List ℕ → ℕ → Places → Type 0
HasPlaces on_board number places =
    let choices = digits_of (square_bases on_board) number in
    ArePlaces on_board (slice_index choices 0) (slice_index choices 1) (slice_index choices 2) places

-- those of each number below so many
pub record AreSomePlaces (on_board : List ℕ) (count : ℕ) (table : List Places) : Type 0 where
  pub long : length table ≡ count
  pub each : (number : ℕ) (other : Places) → number < count → HasPlaces on_board number (slice_index_or table number other)

-- those of all choices of squares
abbrev pub AreAllPlaces : List ℕ → List Places → Type 0
AreAllPlaces on_board table = AreSomePlaces on_board (product (square_bases on_board)) table
