-- Runs: the positions of a block with the same hands and the same lions, which stand in a row. Their numbers within
-- the block, their sizes, and what the columns of the lions say of them.
use Rattle.std.specs.Prelude.{◌<◌, ◌≤◌, ℕ, zero, suc, ◌+◌, ◌-◌, ◌*◌, ◌/◌, ◌%◌, ◌^◌, nat_lt, if◌then◌else◌, List, [], ◌∷◌, map, take, drop, slice_index}
use Rattle.dob_pieces.specs.declared.piece_set.PieceSet.{PieceSet}
use Rattle.dob_pieces.specs.declared.setup.Setup.{Setup}
use Rattle.dob_pieces.specs.Squares.{column}
use Rattle.dob_rank.specs.declared.layers.Layer.TheVariants.{OwnLion, EnemyLion}
use Rattle.dob_rank.specs.Numbers.{product, number_of, digits_of, order, layer, choose, choice, block_bases, start_of, on_board, digits}
use Rattle.dob_rank.specs.Numbers.{own_squares, enemy_squares, free_squares}
use Rattle.dob_rank.specs.declared.runs.RunDigits.{RunDigits}
use Rattle.dob_rank.specs.declared.runs.RunKind.{RunKind}
use Rattle.dob_rank.specs.declared.runs.RunKind.TheVariants.{First, Later, Mixed}

-- the bases of the hands and the lions, whose digits give the run
abbrev pub run_bases : PieceSet → List ℕ → List ℕ
run_bases set on_board =
    (set.chicks - slice_index on_board 0 + 1) ∷ (set.elephants - slice_index on_board 1 + 1)
    ∷ (set.giraffes - slice_index on_board 2 + 1) ∷ own_squares ∷ enemy_squares ∷ []

-- those digits as they are kept
abbrev pub run_digits : RunDigits → List ℕ
run_digits digits = digits.hand.chicks ∷ digits.hand.elephants ∷ digits.hand.giraffes ∷ digits.own ∷ digits.enemy ∷ []

-- the bases of the squares and forms, whose digits give the place in a run
abbrev pub local_bases : List ℕ → List ℕ
local_bases on_board =
    let i = slice_index on_board 0 in
    let j = slice_index on_board 1 in
    let k = slice_index on_board 2 in
    choose free_squares i ∷ choose (free_squares - i) j ∷ choose (free_squares - i - j) k ∷ (4 ^ i) ∷ (2 ^ j) ∷ (2 ^ k) ∷ []

-- the bases of the squares alone
abbrev pub square_bases : List ℕ → List ℕ
square_bases ob =
    let i = slice_index ob 0 in
    let j = slice_index ob 1 in
    let k = slice_index ob 2 in
    choose free_squares i ∷ choose (free_squares - i) j ∷ choose (free_squares - i - j) k ∷ []

-- the bases of the forms alone
abbrev pub form_bases : List ℕ → List ℕ
form_bases on_board = (4 ^ slice_index on_board 0) ∷ (2 ^ slice_index on_board 1) ∷ (2 ^ slice_index on_board 2) ∷ []

-- at most two of each kind on the board
pub record AreFewOnBoard (on_board : List ℕ) : Type 0 where
  pub chicks : slice_index on_board 0 ≤ 2
  pub elephants : slice_index on_board 1 ≤ 2
  pub giraffes : slice_index on_board 2 ≤ 2

-- how many runs the block has, how many positions each of them has, and the rank of a run's first position
unfoldable pub runs_in : PieceSet → ℕ → ℕ
runs_in set block = product (run_bases set (digits_of (block_bases set) block))

unfoldable pub run_size : PieceSet → ℕ → ℕ
run_size set block = product (local_bases (digits_of (block_bases set) block))

unfoldable pub run_start : PieceSet → ℕ → ℕ → ℕ
run_start set block run = start_of set block + run * run_size set block

-- a spot of a block: a run, and a place in it
pub record IsInRun (set : PieceSet) (block run local : ℕ) : Type 0 where
  pub block_below : block < product (block_bases set)
  pub run_below : run < runs_in set block
  pub local_below : local < run_size set block

-- the numbers of the run that digits give, and of the place in it
abbrev pub run_number : PieceSet → List ℕ → List ℕ → ℕ
run_number set on_board ds = number_of (run_bases set on_board) (take 5 ds)

abbrev pub local_number : List ℕ → List ℕ → ℕ
local_number on_board ds = number_of (local_bases on_board) (drop 5 ds)

-- those of a setup
unfoldable pub run_of : PieceSet → Setup → ℕ
run_of set setup = run_number set (on_board setup) (digits setup)

unfoldable pub local_of : Setup → ℕ
local_of setup = local_number (on_board setup) (digits setup)

-- on how many pairs of squares the lions can stand
abbrev pub lion_pairs : ℕ
lion_pairs = own_squares * enemy_squares

-- the number of the lions' squares, below `lion_pairs`
abbrev pub lions_of : Setup → ℕ
lions_of setup =
    let ls = map layer setup.board in
    choice (order OwnLion) ls * enemy_squares + choice (order EnemyLion) ls

-- the square of the enemy's lion, by its number among those that the mover's lion leaves
abbrev pub enemy_square : ℕ → ℕ → ℕ
enemy_square own number = if nat_lt number own then number else number + 1

-- what the columns of the mover's and of the enemy's lion say
abbrev pub kind_by_columns : ℕ → ℕ → RunKind
kind_by_columns zero enemy = First
kind_by_columns (suc zero) zero = First
kind_by_columns (suc zero) (suc zero) = Mixed
kind_by_columns (suc zero) _ = Later
kind_by_columns _ enemy = Later

-- the kind of the runs of those lions
abbrev pub run_kind : ℕ → RunKind
run_kind lions =
    let own = lions / enemy_squares in
    kind_by_columns (column own) (column (enemy_square own (lions % enemy_squares)))
