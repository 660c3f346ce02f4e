-- The places below the index hold the positions of their classes.
use Rattle.dobutsu_c.proofs.Common.{◌+◌, ◌<◌, ◌≡◌, get_or, length, ℕ, Setup, RepresentsClass, IsShown, DobutsuPosition}
use Rattle.dobutsu_c.proofs.classes.write_classes.Given as goal

abbrev pub invariant-loop-place : goal.invariant-loop-place
invariant-loop-place l = record {
  size : length l.positions ≡ length l.initial.positions;
  shown : (k : ℕ) → k < l.place
      → (setup : Setup) × RepresentsClass l.classes.family setup (l.first + k) × ((e : DobutsuPosition) → IsShown (get_or l.positions k e) setup);
}
