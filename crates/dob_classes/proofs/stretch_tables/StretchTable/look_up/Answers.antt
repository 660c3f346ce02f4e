-- The entry found is the one of the number.
use Rattle.dob_classes.proofs.Common.{◌∙◌, arith, sym, marks_below-le, local_marks_in, run_size_in}
use Rattle.dob_classes.proofs.MarksOfRuns.FamilyMarks.{run_size_in-small}
use Rattle.dob_classes.proofs.MarksOfRuns.StretchLists.{IsRead, read_found}
use Rattle.dob_classes.proofs.stretch_tables.StretchTable.look_up.Goals as goal
use Rattle.dob_classes.proofs.stretch_tables.StretchTable.look_up.Goals.{After-index-stretch}

found : (c : After-index-stretch) → let at = c.args.self.now in
    IsRead (local_marks_in at.family at.block at.run) c.args.number c.index-stretch.result.now
found c =
    let at = c.args.self.now in
    read_found (local_marks_in at.family at.block at.run) (run_size_in at.family at.block at.run) c.loop-high.low c.loop-high.high c.args.number at.list.items _
    at.table c.requires c.loop-high.invariant c.loop-high-test.false c.index-stretch.ensures

pub overflow_add-result : goal.overflow_add-result
overflow_add-result c =
    let at = c.args.self.now in
    omega (
      arith,
      (found (goal.at.overflow_add-result c).After-index-stretch).marked_before c.if-stretch.true,
      marks_below-le (local_marks_in at.family at.block at.run) c.args.number,
      run_size_in-small at.family at.block at.run at.within,
      c.requires,
    )

pub returns-then-stretch : goal.returns-then-stretch
returns-then-stretch c =
    let at = found (goal.at.returns-then-stretch c).After-index-stretch in
    record { mark = sym c.if-stretch.true ∙ at.mark_is; before = at.marked_before c.if-stretch.true }

pub returns-else-stretch : goal.returns-else-stretch
returns-else-stretch c =
    let at = found (goal.at.returns-else-stretch c).After-index-stretch in
    record { mark = sym c.if-stretch.false ∙ at.mark_is; before = at.unmarked_before c.if-stretch.false }
