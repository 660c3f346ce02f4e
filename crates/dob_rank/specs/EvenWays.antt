-- Placements that are their own mirror image, where both lions stand on column b: pieces of one kind stand on squares of column b, or two of them on the squares
-- of columns a and c in one row, in the same form. They are counted kind by kind, by how many squares of column b and how many such pairs are left.
use Rattle.std.specs.Prelude.{ℕ, zero, suc, ◌+◌, ◌-◌, ◌*◌, ◌/◌, ◌%◌, ◌^◌, ◌==◌, cond}
use Rattle.dob_pieces.specs.Lists.{one_if, sum_below}
use Rattle.dob_pieces.specs.declared.profile.Profile.{Profile}
use Rattle.dob_pieces.specs.declared.profile.Profile.TheVariants.{A, B}
use Rattle.dob_rank.specs.Numbers.{base_of, choose, enemy_squares}
use Rattle.dob_rank.specs.Runs.{enemy_square}
use Rattle.dob_rank.specs.Weights.{may_have}

-- how many choices of so many squares are a pair
abbrev pub even_pairs : ℕ → ℕ → ℕ
even_pairs zero k = 0
even_pairs (suc zero) k = 0
even_pairs _ k = k

-- in how many ways k giraffes stand so, and j elephants and k giraffes
abbrev pub giraffes_after : ℕ → ℕ → ℕ → ℕ
giraffes_after k m y = choose m k * (base_of 4 ^ k * 1) + even_pairs k y * (base_of 4 * 1)

abbrev pub others_after : ℕ → ℕ → ℕ → ℕ → ℕ
others_after j k m y = choose m j * (base_of 3 ^ j * giraffes_after k (m - j) y) + even_pairs j y * (base_of 3 * giraffes_after k m (y - 1))

-- how many forms a chick or hen may have on a square
abbrev pub forms_there : Profile → ℕ → ℕ
forms_there profile square = sum_below (λ f. one_if (may_have profile square f)) 4

-- how many forms chicks have on squares of column b that the lions leave, and two chicks that have one form on two squares of a row
abbrev pub middle_forms : Profile → ℕ → ℕ → ℕ → ℕ
middle_forms profile zero own enemy = 1
middle_forms profile (suc zero) own enemy =
    forms_there profile 1 + forms_there profile 4 + forms_there profile 7 + forms_there profile 10 - forms_there profile own - forms_there profile enemy
middle_forms profile _ own enemy =
    forms_there profile 1 * forms_there profile 4 * forms_there profile 7 * forms_there profile 10 / (forms_there profile own * forms_there profile enemy)

abbrev pub pair_forms : Profile → ℕ → ℕ
pair_forms profile zero = 0
pair_forms profile (suc zero) = 0
pair_forms profile _ = forms_there profile 0 + forms_there profile 3 + forms_there profile 6 + forms_there profile 9

-- in how many ways i chicks, j elephants and k giraffes stand so, with the lions of that number
abbrev pub even_ways : Profile → ℕ → ℕ → ℕ → ℕ → ℕ
even_ways profile i j k lions =
    middle_forms profile i (lions / enemy_squares) (enemy_square (lions / enemy_squares) (lions % enemy_squares)) * others_after j k (2 - i) 4
    + pair_forms profile i * others_after j k 2 3

-- one for a square of row 1 or 4
abbrev pub far_square : ℕ → ℕ
far_square square = cond (square / 3 == 0) 1 (cond (square / 3 == 3) 1 0)

-- by what these numbers differ: rules A, or by rules B how many of those lions stand on rows 1 and 4
abbrev pub shape_of : Profile → ℕ → ℕ
shape_of A lions = 0
shape_of B lions = 1 + (far_square (lions / enemy_squares) + far_square (enemy_square (lions / enemy_squares) (lions % enemy_squares)))
