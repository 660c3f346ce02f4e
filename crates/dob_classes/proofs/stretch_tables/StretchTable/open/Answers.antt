-- Each stretch is appended or goes on with the last one.
use Rattle.dob_classes.proofs.Common.{◌+◌, ◌∙◌, ◌≡◌, ◌≤◌, ap, arith, subst, sym, ℕ, marks_below_none, marks_below, local_marks_in, run_size_in, AreStretches}
use Rattle.dob_classes.proofs.Counting.WalkMarks.{walk_starts, walked_few}
use Rattle.dob_classes.proofs.MarksOfRuns.StretchLists.{AreStretches-none}
use Rattle.dob_classes.proofs.MarksOfRuns.FamilyMarks.{all_places}
use Rattle.dob_classes.proofs.stretch_tables.StretchTable.open.Goals as goal

pub loop-walk-init : goal.loop-walk-init
loop-walk-init c =
    let mark = local_marks_in c.args.family c.args.block c.args.run in
    let first = walk_starts _ _ c.walk_from-walk.ensures.walk c.walk_from-walk.ensures.place in
    record {
      walk = c.walk_from-walk.ensures.walk;
      are = subst (λ n. AreStretches mark n c.new-list.result.items) (sym first) (AreStretches-none mark c.new-list.result.items c.new-list.ensures.items);
      counted = sym (ap (marks_below mark) first ∙ marks_below_none mark);
      last_is = λ h. absurd (omega (arith, h, first));
    }

pub overflow_add-count : goal.overflow_add-count
overflow_add-count c = omega (arith, walked_few _ _ c.step-marks.ensures.walk, c.step-marks.ensures.count, c.loop-walk.invariant.counted)

pub loop-walk-preserved : goal.loop-walk-preserved
loop-walk-preserved c =
    let kept = c.loop-walk.invariant in
    let alike = c.step-marks.ensures.alike in
    let done = c.in_ok-push_stretch.ensures (local_marks_in c.args.family c.args.block c.args.run) c.step-marks.result.0.number (record {
      are = kept.are;
      last_is = kept.last_is;
      further = alike.further;
      counted = kept.counted;
      same = alike.same;
    }) in
    record {
      walk = c.step-marks.ensures.walk;
      are = done.0;
      counted = ap (λ n. n + c.step-marks.result.1) kept.counted ∙ c.step-marks.ensures.count;
      last_is = λ h. done.1;
    }

pub invariant_of-result : goal.invariant_of-result
invariant_of-result c =
    let mark = local_marks_in c.args.family c.args.block c.args.run in
    let kept = c.loop-walk.invariant in
    let whole : c.loop-walk.walk.number ≡ run_size_in c.args.family c.args.block c.args.run =
    all_places c.args.family c.args.block c.args.run c.loop-walk.walk.place c.loop-walk.walk.number c.run_size_in-size.result kept.walk.number_is
    c.run_size_in-size.ensures.value (upto _ _ _ kept.walk.upto c.run_size_in-size.ensures.value) c.loop-walk-test.false in
    record {
      within = c.requires.block;
      there = c.requires.run;
      table = subst (λ n. AreStretches mark n c.loop-walk.list.items) whole kept.are;
      counted = kept.counted ∙ ap (marks_below mark) whole;
    }
  where
    upto : (place size is : ℕ) → place ≤ is → size ≡ is → place ≤ size
    upto place size is h e = omega (arith, h, e)
