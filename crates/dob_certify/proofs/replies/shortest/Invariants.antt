-- The shortest lead among the moves so far.
use Rattle.dob_moves.specs.Shown.{setup_on}
use Rattle.dob_certify.proofs.Shortest.{IsShortestBelow}
use Rattle.dob_certify.proofs.replies.shortest.Given as goal

abbrev pub invariant-loop-place : goal.invariant-loop-place
invariant-loop-place l =
    IsShortestBelow l.list.classes.now.family l.list.entries.now (setup_on l.position.board) l.walk.moves.items l.place l.best
