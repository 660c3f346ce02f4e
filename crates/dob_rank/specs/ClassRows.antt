-- The classes of a piece set in a row, each stood for by its representative.
use Rattle.std.specs.Prelude.{ℕ, zero, suc, ◌==◌, ◌&&◌, if◌then◌else◌, Bool}
use Rattle.dob_rank.specs.Marks.{marks_below}

-- the marked place, below a bound, with so many marked places before it
abbrev pub marked_place : (ℕ → Bool) → ℕ → ℕ → ℕ
marked_place mark number zero = 0
marked_place mark number (suc n) = if mark n && (marks_below mark n == number) then n else marked_place mark number n
