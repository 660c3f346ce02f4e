-- Lists made piece by piece, their beginnings, and what is counted: ones, and sums below a number.
use Rattle.std.specs.Prelude.{◌≡◌, ℕ, zero, suc, ◌+◌, Bool, cond, List, [], ◌++◌}

-- what g gives below n, in order
abbrev pub each_below : {X : Type 0} → (ℕ → List X) → ℕ → List X
each_below g zero = []
each_below g (suc n) = each_below g n ++ g n

-- the whole begins with the front
abbrev pub IsBeginning : {X : Type 0} → List X → List X → Type 0
IsBeginning {X} front whole = (rest : List X) × (whole ≡ front ++ rest)

-- one where it is so, else none
abbrev pub one_if : Bool → ℕ
one_if b = cond b 1 0

-- the sum of f below a number
abbrev pub sum_below : (ℕ → ℕ) → ℕ → ℕ
sum_below f zero = 0
sum_below f (suc n) = sum_below f n + f n
