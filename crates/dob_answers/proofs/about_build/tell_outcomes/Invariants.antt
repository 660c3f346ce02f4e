-- The wins, the losses and the draws so far are each no more than the classes gone over.
use Rattle.std.proofs.Common.{◌≤◌}
use Rattle.dob_answers.proofs.about_build.tell_outcomes.Given as goal

abbrev pub invariant-loop-class : goal.invariant-loop-class
invariant-loop-class l = (l.wins ≤ l.class) × (l.losses ≤ l.class) × (l.draws ≤ l.class)
