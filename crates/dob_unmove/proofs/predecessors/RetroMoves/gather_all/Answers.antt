-- The squares of the set are gone over from the first on, and the ways of the others are dead.
use Rattle.dob_unmove.proofs.Common.{refl, undoes, undoes_at, may_have_ended, setup_after}
use Rattle.dob_unmove.specs.Ends.{Takes}
use Rattle.dob_unmove.proofs.Gathered.{gathered_start, passes_next, gathered_next, gathered_end}
use Rattle.dob_unmove.proofs.Dead.{ends_dead, calm_end, end_home, own_end}
use Rattle.dob_unmove.proofs.Kept.{legal_turned}
use Rattle.dob_unmove.proofs.Undone.{turned_lions}
use Rattle.dob_unmove.proofs.predecessors.RetroMoves.gather_all.Goals as goal

pub loop-to-init : goal.loop-to-init
loop-to-init c = λ w.
    let walk = c.args.self.now in
    let after = setup_after walk in
    rw c.into_iter-to-iterator.ensures.into_iter_gives
    (gathered_start (Takes walk) (may_have_ended after walk.ways.now.threat w.ways_are.stays) (undoes_at after)
    walk.ways.now.ends c.args.found.now.items w.ways_are.ends_are)

pub gather_all-requires : goal.gather_all-requires
gather_all-requires c =
    let walk = c.args.self.now in
    let after = setup_after walk in
    let w = c.requires in
    let stays = w.ways_are.stays in
    let to = c.in-Some.to in
    let ends = passes_next (c.loop-to.invariant w) c.in-Some.ensures.steps in
    record {
      walk = w;
      own = own_end after walk.ways.now.threat stays to ends;
      calm = calm_end after walk.ways.now.threat stays to ends;
      home =
          end_home after walk.ways.now.threat stays to (turned_lions after (legal_turned walk.classes.now.family after w.of_set)) w.ways_are.home_is ends;
    }

pub loop-to-preserved : goal.loop-to-preserved
loop-to-preserved c = λ w. gathered_next (c.loop-to.invariant w) c.in-Some.ensures.steps refl c.in_ok-gather_all.ensures

pub returns : goal.returns
unfolding undoes
returns c = gathered_end (c.loop-to.invariant c.requires) (ends_dead c.args.self.now c.requires) c.in-None.ensures.steps.0
