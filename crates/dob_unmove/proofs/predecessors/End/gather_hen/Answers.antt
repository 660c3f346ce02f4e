-- a chick's steps, of which there are some on the far row alone, and a hen's
use Rattle.dob_unmove.proofs.Common.{◌∙◌, ne_eqb, on_ok_weaker, row, Chick, Hen, unsteps, setup_after}
use Rattle.dob_unmove.proofs.Runs.{takes_append}
use Rattle.dob_unmove.specs.Ends.{Collects, Takes}
use Rattle.dob_unmove.proofs.Standing.{ways_of_hen, no_growth}
use Rattle.dob_unmove.proofs.predecessors.End.gather_hen.Goals as goal
use Rattle.dob_unmove.proofs.predecessors.End.gather_hen.Goals.{then-row-eq3+in_ok-gather_steps, else-row-eq3}

pub returns : goal.returns
returns c =
    let walk = c.args.self.now.walk.now in
    let to = c.args.self.now.to in
    let growths : Collects walk (unsteps (setup_after walk) Chick to) c.args.found.now.items c.if-row-eq3.found.items
    = elim c.if-row-eq3.branch [
      | then-row-eq3+in_ok-gather_steps w ↦ rw w.found-is w.in_ok-gather_steps.ensures
      | else-row-eq3 w ↦
          rw (w.found-is, no_growth (setup_after walk) to c.requires.stands (ne_eqb (row to) 3 (λ far. w.if-row-eq3.false (c.row.ensures.value ∙ far))))
    ] in
    rw (ways_of_hen (setup_after walk) to c.requires.stands)
    (on_ok_weaker c.gather_steps-2.result
    (takes_append (Takes walk) _ _ _ (unsteps (setup_after walk) Chick to) (unsteps (setup_after walk) Hen to) growths)
    c.gather_steps-2.ensures)
