-- The entry found has the number.
use Rattle.dob_classes.proofs.Common.{◌+◌, ◌-◌, arith, local_marks_in, run_size_in}
use Rattle.dob_classes.proofs.MarksOfRuns.FamilyMarks.{run_size_in-small}
use Rattle.dob_classes.proofs.MarksOfRuns.StretchLists.{IsMarkedPlace, among_all, place_found}
use Rattle.dob_classes.proofs.stretch_tables.StretchTable.number_at.Goals as goal
use Rattle.dob_classes.proofs.stretch_tables.StretchTable.number_at.Goals.{After-index-stretch}

pub loop-high-init : goal.loop-high-init
loop-high-init c =
    let at = c.args.self.now in
    among_all (local_marks_in at.family at.block at.run) (run_size_in at.family at.block at.run) _ c.args.marks at.list.items at.table
    (rw at.counted at c.requires) (omega (arith, c.len-high.ensures, at.list.ok))

found : (c : After-index-stretch) → let at = c.args.self.now in
    IsMarkedPlace (local_marks_in at.family at.block at.run) (run_size_in at.family at.block at.run) c.args.marks
    (c.index-stretch.result.now.start + (c.args.marks - c.index-stretch.result.now.before))
found c =
    let at = c.args.self.now in
    place_found (local_marks_in at.family at.block at.run) (run_size_in at.family at.block at.run) c.loop-high.low c.loop-high.high c.args.marks at.list.items _
    at.table (rw at.counted at c.requires) c.loop-high.invariant c.loop-high-test.false c.index-stretch.ensures

pub overflow_add-result : goal.overflow_add-result
overflow_add-result c =
    let at = c.args.self.now in
    omega (arith, (found (goal.at.overflow_add-result c).After-index-stretch).below, run_size_in-small at.family at.block at.run at.within)

pub returns : goal.returns
returns c = (let at = found (goal.at.returns c).After-index-stretch in record { number = at.below; mark = at.mark_is; marks = at.number_is })
