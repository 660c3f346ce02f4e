-- The classes so far have their openings.
use Rattle.dob_history.specs.Openings.{AreOpeningsBelow}
use Rattle.dob_history.proofs.openings.opening.Given as goal

abbrev pub invariant-loop-class : goal.invariant-loop-class
invariant-loop-class l = AreOpeningsBelow l.classes.family l.class l.openings
