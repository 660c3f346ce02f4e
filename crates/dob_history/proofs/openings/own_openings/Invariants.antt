-- The own classes so far have their openings.
use Rattle.dob_history.proofs.Common.{◌≡◌, AreOwnSoFar, length}
use Rattle.dob_history.proofs.openings.own_openings.Given as goal

abbrev pub invariant-loop-place : goal.invariant-loop-place
invariant-loop-place l = (length l.own ≡ l.place) × AreOwnSoFar l.classes.family l.nodes l.id l.own
