-- The successors by the moves so far stand.
use Rattle.dob_value.proofs.Common.{◌++◌, ◌≡◌, List, ℕ, ClassStandsFor, class_setup}
use Rattle.dob_value.proofs.Successors.{AreSuccessorsBelow}
use Rattle.dob_value.proofs.graph.push_successors.Given as goal

abbrev pub invariant-loop-place : goal.invariant-loop-place
invariant-loop-place l =
    (numbers : List ℕ) × (l.successors.items ≡ l.initial.successors.items ++ numbers)
    × AreSuccessorsBelow l.classes.family.profile (ClassStandsFor l.classes.family) (class_setup l.classes.family l.number) l.walk.moves.items l.place numbers
