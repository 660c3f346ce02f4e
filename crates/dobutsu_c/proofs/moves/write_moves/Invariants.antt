-- The places below the index hold the moves, and those past the list what they held.
use Rattle.dobutsu_c.proofs.Common.{◌<◌, ◌≡◌, ◌≤◌, get_or, length, ℕ, ValuedMove, shown_valued}
use Rattle.dobutsu_c.proofs.Common.{DobutsuMove}
use Rattle.dobutsu_c.proofs.moves.write_moves.Given as goal

abbrev pub invariant-loop-place : goal.invariant-loop-place
invariant-loop-place l =
    ((k : ℕ) (d : ValuedMove) (e : DobutsuMove) → k < l.place → get_or l.places k e ≡ shown_valued (get_or l.list k d))
    × ((k : ℕ) (e : DobutsuMove) → length l.list ≤ k → get_or l.places k e ≡ get_or l.initial.places k e)
