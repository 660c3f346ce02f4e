-- The positions below the index have their answers, and the others are left.
use Rattle.dobutsu_c.proofs.Common.{◌<◌, ◌≡◌, ◌≤◌, get_or, length, ℕ, IsAnswerAt, DobutsuAnswer, DobutsuPosition}
use Rattle.dobutsu_c.proofs.many.dobutsu_probe_positions.Given as goal

abbrev pub invariant-loop-place : goal.invariant-loop-place
invariant-loop-place l = record {
  size : length l.answers ≡ length l.initial.answers;
  answers : (k : ℕ) (d : DobutsuPosition) (e : DobutsuAnswer) → k < l.place
      → IsAnswerAt l.file l.by (get_or l.positions k d) (get_or l.initial.answers k e) (get_or l.answers k e);
  others : (k : ℕ) (e : DobutsuAnswer) → l.place ≤ k → get_or l.answers k e ≡ get_or l.initial.answers k e;
}
