-- The ways that end on the squares gone over are taken.
use Rattle.dob_unmove.proofs.Common.{CanWalk, undoes_at, may_have_ended, setup_after}
use Rattle.dob_unmove.specs.Ends.{Takes}
use Rattle.dob_unmove.proofs.Gathered.{IsGathered}
use Rattle.dob_unmove.proofs.predecessors.RetroMoves.gather_all.Given as goal

abbrev pub invariant-loop-to : goal.invariant-loop-to
invariant-loop-to l =
    (w : CanWalk l.self)
    → IsGathered (Takes l.self) (may_have_ended (setup_after l.self) l.self.ways.now.threat w.ways_are.stays)
    (undoes_at (setup_after l.self)) l.to-iterator.left l.yielded l.initial.found.items l.found.items
