-- The steps from the squares gone over are taken.
use Rattle.dob_unmove.specs.Ends.{Takes}
use Rattle.dob_unmove.proofs.Common.{unsteps_from, may_come, setup_after}
use Rattle.dob_unmove.proofs.Gathered.{IsGathered}
use Rattle.dob_unmove.proofs.predecessors.End.gather_steps.Given as goal

abbrev pub invariant-loop-from : goal.invariant-loop-from
invariant-loop-from l =
    IsGathered (Takes l.self.walk.now)
    (may_come (setup_after l.self.walk.now) l.self.walk.now.ways.now.threat.lion l.kind l.self.to) (unsteps_from (setup_after l.self.walk.now) l.kind l.self.to)
    l.from-iterator.left l.yielded l.initial.found.items l.found.items
