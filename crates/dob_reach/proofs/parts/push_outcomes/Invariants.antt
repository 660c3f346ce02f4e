-- The moves so far lead to a list of classes, and those that aren't marked are appended.
use Rattle.dob_reach.proofs.Common.{◌++◌, ◌≡◌, AreSuccessorsBelow, IsSifted, List, ℕ}
use Rattle.dob_rank.specs.Families.{class_setup}
use Rattle.dob_reach.proofs.Stepping.{StandsFor}
use Rattle.dob_reach.proofs.parts.push_outcomes.Given as goal

abbrev pub invariant-loop-place : goal.invariant-loop-place
invariant-loop-place l =
    (all : List ℕ) × (numbers : List ℕ) × (l.outcomes.items ≡ l.initial.outcomes.items ++ numbers)
    × AreSuccessorsBelow l.classes.family.profile (StandsFor l.classes.family (class_setup l.classes.family l.class)) (class_setup l.classes.family l.class) l.walk.moves.items l.place
    all
    × IsSifted l.marks.words.items all numbers
