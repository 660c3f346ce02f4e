-- the steps, of which there are none on the far row, and the drop
use Rattle.dob_unmove.proofs.Common.{◌∙◌, sym, eq-eqb, on_ok_weaker, row, Chick, unputs, unsteps, setup_after}
use Rattle.dob_pieces.specs.declared.kind.HandKind.TheVariants as hand
use Rattle.dob_unmove.proofs.Runs.{takes_append}
use Rattle.dob_unmove.specs.Ends.{Collects, Takes}
use Rattle.dob_unmove.proofs.Standing.{ways_of_chick, no_chick_steps}
use Rattle.dob_unmove.proofs.predecessors.End.gather_chick.Goals as goal
use Rattle.dob_unmove.proofs.predecessors.End.gather_chick.Goals.{then-row-ne3+in_ok-gather_steps, else-row-ne3}

pub returns : goal.returns
returns c =
    let walk = c.args.self.now.walk.now in
    let to = c.args.self.now.to in
    let steps : Collects walk (unsteps (setup_after walk) Chick to) c.args.found.now.items c.if-row-ne3.found.items
    = elim c.if-row-ne3.branch [
      | then-row-ne3+in_ok-gather_steps w ↦ rw w.found-is w.in_ok-gather_steps.ensures
      | else-row-ne3 w ↦
          rw (w.found-is, no_chick_steps (setup_after walk) to c.requires.stands (eq-eqb (row to) 3 (sym c.row.ensures.value ∙ w.if-row-ne3.false)))
    ] in
    rw (ways_of_chick (setup_after walk) to c.requires.stands)
    (on_ok_weaker c.gather_put.result
    (takes_append (Takes walk) _ _ _ (unsteps (setup_after walk) Chick to) (unputs (setup_after walk) hand.Chick to) steps)
    c.gather_put.ensures)
