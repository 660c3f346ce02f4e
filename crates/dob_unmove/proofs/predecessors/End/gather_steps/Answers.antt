-- The squares of the set are gone over from the first on, and the steps from the others are dead.
use Rattle.dob_unmove.specs.Ends.{Takes}
use Rattle.dob_unmove.proofs.Common.{refl, unsteps, unsteps_from, may_come, setup_after}
use Rattle.dob_unmove.proofs.Gathered.{gathered_start, passes_next, gathered_next, gathered_end}
use Rattle.dob_unmove.proofs.Dead.{comes_dead}
use Rattle.dob_unmove.proofs.predecessors.End.gather_steps.Goals as goal

pub loop-from-init : goal.loop-from-init
loop-from-init c =
    let end = c.args.self.now in
    let after = setup_after end.walk.now in
    rw c.into_iter-from-iterator.ensures.into_iter_gives
    (gathered_start (Takes end.walk.now) (may_come after end.walk.now.ways.now.threat.lion c.args.kind end.to)
    (unsteps_from after c.args.kind end.to) c.sources-from-items.result c.args.found.now.items
    (c.sources-from-items.ensures after c.requires.end.walk.ways_are))

pub gather_steps_from-requires-clause-comes : goal.gather_steps_from-requires-clause-comes
gather_steps_from-requires-clause-comes c = passes_next c.loop-from.invariant c.in-Some.ensures.steps

pub loop-from-preserved : goal.loop-from-preserved
loop-from-preserved c = gathered_next c.loop-from.invariant c.in-Some.ensures.steps refl c.in_ok-gather_steps_from.ensures

pub returns : goal.returns
unfolding unsteps
returns c =
    let dead = comes_dead c.args.self.now.walk.now c.requires.end.walk c.args.kind c.args.self.now.to c.requires.stands in
    rw c.requires.stands (gathered_end c.loop-from.invariant dead c.in-None.ensures.steps.0)
