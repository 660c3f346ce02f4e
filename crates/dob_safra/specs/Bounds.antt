-- Numbers with a limit.
use Rattle.std.specs.Prelude.{◌<◌, ◌≤◌, ℕ}

-- it is 1 to that
abbrev pub IsUpTo : ℕ → ℕ → Type 0
IsUpTo most n = (0 < n) × (n ≤ most)
