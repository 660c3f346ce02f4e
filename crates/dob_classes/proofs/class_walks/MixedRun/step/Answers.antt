-- A step adds the representatives among the positions that it passes, where these are marked.
use Rattle.dob_classes.proofs.Common.{◌∙◌, arith, false, refl, true, local_marks_in, IsStretchIn, marks_before}
use Rattle.dob_classes.proofs.MarksOfRuns.StretchLists.{counted}
use Rattle.dob_classes.proofs.Counting.WalkMarks.{passed}
use Rattle.dob_classes.proofs.class_walks.MixedRun.step.Goals as goal
use Rattle.dob_classes.proofs.class_walks.MixedRun.step.Goals.{After-count_before-number}

added : (c : After-count_before-number) → IsStretchIn c.args.self.now.family c.args.self.now.block c.args.self.now.run
    c.args.walk.number c.count_before-number.result c.stretch_at-is_marked.result.0
added c =
    passed c.args.self.now c.args.walk c.args.place c.stretch_at-is_marked.result.1 c.min-to.result c.count_before-number.result c.stretch_at-is_marked.result.0
    c.requires.walk c.requires.further c.requires.within c.stretch_at-is_marked.ensures.some c.min-to.ensures c.count_before-number.ensures
    c.stretch_at-is_marked.ensures.marks

pub overflow_sub-count : goal.overflow_sub-count
overflow_sub-count c = (added (goal.at.overflow_sub-count c).After-count_before-number).further

pub returns-then-is_marked-clause-count : goal.returns-then-is_marked-clause-count
returns-then-is_marked-clause-count c =
    let at = c.args.self.now in
    let by = added (goal.at.returns-then-is_marked-clause-count c).After-count_before-number in
    counted (local_marks_in at.family at.block at.run) true c.args.walk.number c.count_before-number.result (marks_before at c.args.walk.number)
    by.further refl (λ k a b. by.same k a b ∙ c.if-is_marked.true)

pub returns-else-is_marked-clause-count : goal.returns-else-is_marked-clause-count
returns-else-is_marked-clause-count c =
    let at = c.args.self.now in
    let by = added (goal.at.returns-else-is_marked-clause-count c).After-count_before-number in
    let same = counted (local_marks_in at.family at.block at.run) false c.args.walk.number c.count_before-number.result (marks_before at c.args.walk.number)
    by.further refl (λ k a b. by.same k a b ∙ c.if-is_marked.false) in
    omega (arith, same)

pub returns-then-is_marked-clause-alike : goal.returns-then-is_marked-clause-alike
returns-then-is_marked-clause-alike c = added (goal.at.returns-then-is_marked-clause-alike c).After-count_before-number

pub returns-else-is_marked-clause-alike : goal.returns-else-is_marked-clause-alike
returns-else-is_marked-clause-alike c = added (goal.at.returns-else-is_marked-clause-alike c).After-count_before-number
