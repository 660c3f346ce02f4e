-- The successors' values by the moves so far are summed up in what is kept.
use Rattle.dob_probe.proofs.Common.{List, AreSuccessorsBelow, Value, GivenBy, AreSummed}
use Rattle.dob_moves.specs.Shown.{setup_on}
use Rattle.dob_probe.proofs.successors.successors_of.Given as goal

abbrev pub invariant-loop-place : goal.invariant-loop-place
invariant-loop-place l =
    (values : List Value)
    × AreSuccessorsBelow l.table.family.profile (λ (v : Value) q. GivenBy l.table q v) (setup_on l.position.board) l.walk.moves.items l.place values
    × AreSummed values l.kept
