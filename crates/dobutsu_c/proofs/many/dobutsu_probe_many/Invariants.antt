-- The texts below the index have their answers, the others are left, and the next begins where the last ended.
use Rattle.dobutsu_c.proofs.Common.{◌<◌, ◌≡◌, ◌≤◌, get_or, length, ℕ, IsAnswerOf, start_at, text_at, DobutsuAnswer}
use Rattle.dobutsu_c.proofs.many.dobutsu_probe_many.Given as goal

abbrev pub invariant-loop-place : goal.invariant-loop-place
invariant-loop-place l = record {
  begins : l.start ≡ start_at l.ends l.place;
  size : length l.answers ≡ length l.initial.answers;
  answers : (k : ℕ) (e : DobutsuAnswer) → k < l.place
      → IsAnswerOf l.file l.by (text_at l.texts l.ends k) (get_or l.initial.answers k e) (get_or l.answers k e);
  others : (k : ℕ) (e : DobutsuAnswer) → l.place ≤ k → get_or l.answers k e ≡ get_or l.initial.answers k e;
}
