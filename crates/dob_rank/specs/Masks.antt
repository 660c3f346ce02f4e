-- The squares of a layer as the bits of a number, square 0 as the lowest.
use Rattle.std.specs.Prelude.{ℕ, ◌+◌, ◌-◌, ◌*◌, ◌^◌, ◌==◌, nat_lt, cond, List, [], ◌∷◌}

-- the squares of that layer
abbrev pub layer_mask : ℕ → List ℕ → ℕ
layer_mask t [] = 0
layer_mask t (l ∷ ls) = cond (l == t) 1 0 + 2 * layer_mask t ls

-- the squares of that layer or a later one
abbrev pub from_mask : ℕ → List ℕ → ℕ
from_mask t [] = 0
from_mask t (l ∷ ls) = cond (nat_lt l t) 0 1 + 2 * from_mask t ls

-- all squares
abbrev pub all_squares : ℕ
all_squares = 2 ^ 12 - 1
