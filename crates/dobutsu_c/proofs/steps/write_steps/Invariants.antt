-- The places below the index hold the moves, and those past the list what they held.
use Rattle.dobutsu_c.proofs.Common.{◌<◌, ◌≡◌, ◌≤◌, get_or, length, ℕ, Move, shown_step}
use Rattle.dob_foreign.specs.declared.moves.DobutsuStep.{DobutsuStep}
use Rattle.dobutsu_c.proofs.steps.write_steps.Given as goal

abbrev pub invariant-loop-place : goal.invariant-loop-place
invariant-loop-place l =
    ((k : ℕ) (d : Move) (e : DobutsuStep) → k < l.place → get_or l.places k e ≡ shown_step (get_or l.list k d))
    × ((k : ℕ) (e : DobutsuStep) → length l.list ≤ k → get_or l.places k e ≡ get_or l.initial.places k e)
