-- None of the moves so far has those numbers.
use Rattle.dobutsu_c.proofs.Common.{◌<◌, ◌≢◌, get_or, ℕ, Move, shown_step}
use Rattle.dobutsu_c.proofs.steps.step_among.Given as goal

abbrev pub invariant-loop-played : goal.invariant-loop-played
invariant-loop-played l = (k : ℕ) (d : Move) → k < l.played-index → shown_step (get_or l.list k d) ≢ l.step
